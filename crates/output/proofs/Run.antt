-- The run of a write, one byte a turn; and 8,32,8 for each of n units. Assumes nothing.
use mathlib.Core.Path.{◌≡◌, refl, sym, ap, ◌∙◌}
use mathlib.Core.Bool.{Bool, true, false, cond}
use mathlib.Core.List.{List, [], ◌∷◌, ◌++◌}
use Prim.Native.Nat.{ℕ, zero, suc, ◌+◌, ◌-◌, ◌*◌, ◌<◌, ◌≤◌, min}
use native.Mathlib.Nat.{add-zero, zero-add}
use native.Mathlib.Numerals.{add-one}
use native.Mathlib.Omega.{arith}
use lib.ListN.{length, get_or, take, drop, length-append}
use lib.Seq.{drop-cons, drop-length, take-length}
use borrow.Author.Tests.{le-leb, lt-leb}
use Rattle.rules.specs.declared.Settings.{Settings}
use Rattle.rules.specs.Sizes.{Output as Ruled}
use Rattle.rules.specs.Output.{expand, column_after, columns_after, processed, queued, queued_whole, written, taken}
use Rattle.rules.specs.Echo.{rubout}
use Rattle.rules.proofs.OutputLaws.{written_next}
use Rattle.output.specs.Contract.{in_range, get, OutputBecomes, Writes, Echoes, takes}
use Rattle.output.specs.columns.Contract.{Behind}
use Rattle.output.specs.declared.Output.{Output}
use Rattle.queue.specs.declared.Counted.{Counted}
use Rattle.output.specs.declared.columns.Measure.{Measure}
use Rattle.output.specs.expansion.Contract.{expanded_bytes}
use Rattle.output.specs.declared.expansion.Expansion.{Expansion}
use Rattle.output.proofs.Laws.{get_length, full_of, get_range, range_len, range_get, start_run, same_size, get_after, len_after, column_after_lem}
use Rattle.output.proofs.Laws.{len_now, becomes, and_then, via_range, twice}

-- after i bytes of src, from output o in range in slice l: output p and slice m
pub record SoFar (x : Settings) (o : Output) (l src : List ℕ) (i : ℕ) (p : Output) (m : List ℕ) : Type 0 where
  pub output : OutputBecomes o l (written x (get o l) (take i src)) p m
  pub size : length m ≡ length l
  pub fits : p.queue.len ≤ length l
  pub rest : takes x o l src ≡ i + taken (length l) x p.queue.len p.column (drop i src)

pub start : (x : Settings) (o p : Output) (l src : List ℕ) → p ≡ in_range (length l) o → SoFar x p l src 0 p l
start x o p l src e =
    record {
      output = start_run x o p l e;
      size = refl;
      fits = omega (arith, range_len x o p l e);
      rest =
          ap (λ (n : ℕ). taken (length l) x n p.column src) (range_get x o p l e)
          ∙ sym (zero-add (taken (length l) x p.queue.len p.column src));
    }

-- the next byte fits, or it does not
taken_fits : (N : ℕ) (x : Settings) (n c : ℕ) (bs : List ℕ) (j : ℕ) → j < length bs → n + length (expand x c (get_or bs j 0)) ≤ N
    → taken N x n c (drop j bs)
    ≡ suc (taken N x (n + length (expand x c (get_or bs j 0))) (columns_after x c (expand x c (get_or bs j 0))) (drop (j + 1) bs))
taken_fits N x n c bs j lt le = rw (drop-cons bs j 0 lt, le-leb (n + length (expand x c (get_or bs j 0))) N le, add-one)

taken_full : (N : ℕ) (x : Settings) (n c : ℕ) (bs : List ℕ) (j : ℕ) → j < length bs → N < n + length (expand x c (get_or bs j 0))
    → taken N x n c (drop j bs) ≡ 0
taken_full N x n c bs j lt le = rw (drop-cons bs j 0 lt, lt-leb (n + length (expand x c (get_or bs j 0))) N le)

pub got_column : (x : Settings) (p : Output) (m e : List ℕ) → (queued x (get p m) e).column ≡ columns_after x p.column e
unfolding get
got_column x p m e = refl

module _ (x : Settings) (o : Output) (l src : List ℕ) (i : ℕ) (p : Output) (m e : List ℕ) (a : SoFar x o l src i p m) (lt : i < length src)
    (ee : e ≡ expand x p.column (get_or src i 0)) where
  so_far : Ruled
  so_far = written x (get o l) (take i src)

  so_far_fits : length so_far.queue ≤ length l
  unfolding so_far
  so_far_fits = omega (arith, len_after o p l m (written x (get o l) (take i src)) a.output, a.fits)

  is_so_far : get p m ≡ so_far
  unfolding so_far
  is_so_far = get_after o p l m (written x (get o l) (take i src)) a.output so_far_fits

  one_more : queued x so_far e ≡ written x (get o l) (take (i + 1) src)
  unfolding so_far
  one_more =
      ap (queued x (written x (get o l) (take i src)))
      (ee ∙ ap (λ (k : ℕ). expand x k (get_or src i 0)) (column_after_lem o p l m (written x (get o l) (take i src)) a.output))
      ∙ sym (written_next x (get o l) i src lt)

  pub next : (q : Output) (k : List ℕ) → p.queue.len + length e ≤ length l → OutputBecomes p m (queued x (get p m) e) q k → SoFar x o l src (i + 1) q k
  unfolding so_far
  next q k le b =
      let w : Ruled = written x (get o l) (take i src) in
      let n : q.queue.len ≡ p.queue.len + length e = len_now x p q m k e b ∙ omega (arith, a.fits, a.size) in
      let c : q.column ≡ columns_after x p.column e = column_after_lem p q m k (queued x (get p m) e) b ∙ got_column x p m e in
      let t : taken (length l) x p.queue.len p.column (drop i src)
      ≡ suc (taken (length l) x (p.queue.len + length (expand x p.column (get_or src i 0)))
      (columns_after x p.column (expand x p.column (get_or src i 0))) (drop (i + 1) src)) =
      taken_fits (length l) x p.queue.len p.column src i lt (rw (← ee) le) in
      let t' : taken (length l) x p.queue.len p.column (drop i src) ≡ suc (taken (length l) x q.queue.len q.column (drop (i + 1) src)) =
      t ∙ ap (λ (y : List ℕ). suc (taken (length l) x (p.queue.len + length y) (columns_after x p.column y) (drop (i + 1) src))) (sym ee)
      ∙ ap (λ (y : ℕ). suc (taken (length l) x y (columns_after x p.column e) (drop (i + 1) src))) (sym n)
      ∙ ap (λ (y : ℕ). suc (taken (length l) x q.queue.len y (drop (i + 1) src))) (sym c) in
      record {
        size = same_size p q m k (queued x (get p m) e) b ∙ a.size;
        output =
            becomes o q l k (queued x w e) (written x (get o l) (take (i + 1) src)) one_more
            (and_then o p l m w a.output x e q k so_far_fits
            (becomes p q m k (queued x (get p m) e) (queued x w e) (ap (λ (y : Ruled). queued x y e) is_so_far) b));
        fits = omega arith;
        rest = omega (arith, a.rest, t');
      }

  pub full : length l < p.queue.len + length e → takes x o l src ≡ i
  full over =
      a.rest
      ∙ ap (λ (n : ℕ). i + n) (taken_full (length l) x p.queue.len p.column src i lt (rw (← ee) over))
      ∙ add-zero i

pub done : (x : Settings) (o : Output) (l src : List ℕ) (p : Output) (m : List ℕ) → SoFar x o l src (length src) p m → takes x o l src ≡ length src
done x o l src p m a =
    a.rest
    ∙ ap (λ (r : List ℕ). length src + taken (length l) x p.queue.len p.column r) (drop-length src)
    ∙ add-zero (length src)

-- the promise of a write that took i bytes
pub wrote : (x : Settings) (o₀ o : Output) (l src : List ℕ) (i : ℕ) (p : Output) (m : List ℕ) → o ≡ in_range (length l) o₀ → SoFar x o l src i p m
    → takes x o l src ≡ i → Writes x o₀ l src (record { rest = p; count = i }) m
wrote x o₀ o l src i p m e a t =
    let g : get o l ≡ get o₀ l = ap (λ (y : Output). get y l) e ∙ get_range o₀ l in
    let c : o.column ≡ o₀.column = ap (λ (y : Output). y.column) e in
    let t' : takes x o₀ l src ≡ i =
    ap (λ (y : Ruled). taken (length l) x (length y.queue) o₀.column src) (sym g)
    ∙ ap (λ (y : ℕ). taken (length l) x (length (get o l).queue) y src) (sym c) ∙ t in
    record {
      count = sym t';
      rest =
          becomes o₀ p l m (written x (get o₀ l) (take i src)) (written x (get o₀ l) (take (takes x o₀ l src) src))
          (ap (λ (n : ℕ). written x (get o₀ l) (take n src)) (sym t'))
          (via_range o₀ o p l m (λ (w : Ruled). written x w (take i src)) e a.output);
    }

---- An echo that fits is taken whole

taken_all : (N : ℕ) (x : Settings) (n c : ℕ) (bs : List ℕ) → n + length (processed x c bs) ≤ N → taken N x n c bs ≡ length bs
taken_all N x n c [] le = refl
taken_all N x n c (b ∷ bs) le =
    let e : List ℕ = expand x c b in
    let r : List ℕ = processed x (columns_after x c e) bs in
    let k : length (e ++ r) ≡ length e + length r = length-append e r in
    rw (le-leb (n + length e) N (omega arith)) (ap suc (taken_all N x (n + length e) (columns_after x c e) bs (omega arith)))

shown_of : (x : Settings) (o : Output) (l bs : List ℕ) (r : Counted Output) (m : List ℕ)
    → length (get o l).queue + length (processed x o.column bs) ≤ length l → Writes x o l bs r m → Echoes x o l bs r.rest m
unfolding get
shown_of x o l bs r m le w =
    let t : takes x o l bs ≡ length bs = taken_all (length l) x (length (get o l).queue) o.column bs le in
    let all : take (takes x o l bs) bs ≡ bs = ap (λ (n : ℕ). take n bs) t ∙ take-length bs in
    becomes o r.rest l m (written x (get o l) (take (takes x o l bs) bs)) (queued_whole (length l) x (get o l) (processed x o.column bs))
    (ap (written x (get o l)) all ∙ sym (rw (le-leb (length (get o l).queue + length (processed x o.column bs)) (length l) le)))
    w.rest

---- 8,32,8

cond_same : (t : Bool) (l : List ℕ) → cond t l l ≡ l
cond_same true l = refl
cond_same false l = refl

back_plain : (x : Settings) (c : ℕ) → expand x c 8 ≡ 8 ∷ []
unfolding expand
back_plain x c = cond_same x.opost (8 ∷ [])

blank_plain : (x : Settings) (c : ℕ) → expand x c 32 ≡ 32 ∷ []
unfolding expand
blank_plain x c = cond_same x.opost (32 ∷ [])

plain_more : (x : Settings) (c b : ℕ) (bs : List ℕ) → expand x c b ≡ b ∷ [] → processed x c (b ∷ bs) ≡ b ∷ processed x (column_after x c b) bs
plain_more x c b bs e = ap (λ (l : List ℕ). l ++ processed x (columns_after x c l) bs) e

pub rubout_plain : (x : Settings) (c n : ℕ) → processed x c (rubout n) ≡ rubout n
rubout_plain x c zero = refl
rubout_plain x c (suc n) =
    let c₁ : ℕ = column_after x c 8 in
    let c₂ : ℕ = column_after x c₁ 32 in
    plain_more x c 8 (32 ∷ 8 ∷ rubout n) (back_plain x c)
    ∙ ap (◌∷◌ 8) (plain_more x c₁ 32 (8 ∷ rubout n) (blank_plain x c₁))
    ∙ ap (λ (l : List ℕ). 8 ∷ 32 ∷ l) (plain_more x c₂ 8 (rubout n) (back_plain x c₂))
    ∙ ap (λ (l : List ℕ). 8 ∷ 32 ∷ 8 ∷ l) (rubout_plain x (column_after x c₂ 8) n)

pub rubout_snoc : (n : ℕ) → rubout (n + 1) ≡ rubout n ++ (8 ∷ 32 ∷ 8 ∷ [])
rubout_snoc n = rw add-one (by n)
  where
    by : (m : ℕ) → rubout (suc m) ≡ rubout m ++ (8 ∷ 32 ∷ 8 ∷ [])
    by zero = refl
    by (suc m) = ap (λ (l : List ℕ). 8 ∷ 32 ∷ 8 ∷ l) (by m)

pub rubout_length : (n : ℕ) → length (rubout n) ≡ 3 * n
rubout_length zero = refl
rubout_length (suc n) = omega (arith, rubout_length n)

---- show: measured first

-- the echo fits, or it does not
pub shows : (x : Settings) (o : Output) (l bs : List ℕ) (m : Measure) → Behind x (length l - min o.queue.len (length l)) o.column bs m
    → (r : Counted Output) (l' : List ℕ) → Writes x o l bs r l' → Echoes x o l bs r.rest l'
shows x o l bs m h r l' w = shown_of x o l bs r l' (rw get_length (omega (arith, h.left))) w

pub shows_nothing : (x : Settings) (o p : Output) (l bs : List ℕ) → length l - min o.queue.len (length l) < length (processed x o.column bs)
    → p ≡ in_range (length l) o → Echoes x o l bs p l
shows_nothing x o p l bs lt e = full_of x o p l e (processed x o.column bs) (omega (arith, range_len x o p l e))

---- Runs of bytes as they are

-- the bytes e are queued behind those that o, in range, held in slice l: output p and slice m
pub record Queues (x : Settings) (o : Output) (l e : List ℕ) (p : Output) (m : List ℕ) : Type 0 where
  pub size : length m ≡ length l
  pub len : p.queue.len ≡ o.queue.len + length e
  pub so : OutputBecomes o l (queued x (get o l) e) p m

-- none yet, from the output in range; the first; more
pub queues_none : (x : Settings) (o p : Output) (l : List ℕ) → p ≡ in_range (length l) o → Queues x p l [] p l
queues_none x o p l e = record { size = refl; len = omega arith; so = start_run x o p l e }

pub queues_first : (x : Settings) (o p : Output) (l e m : List ℕ) → o.queue.len ≤ length l → OutputBecomes o l (queued x (get o l) e) p m
    → Queues x o l e p m
queues_first x o p l e m le s =
    record { size = same_size o p l m (queued x (get o l) e) s; len = len_now x o p l m e s ∙ omega arith; so = s }

pub queues_more : (x : Settings) (o p r : Output) (l e m b k : List ℕ) → Queues x o l e p m → p.queue.len ≤ length l
    → OutputBecomes p m (queued x (get p m) b) r k → Queues x o l (e ++ b) r k
queues_more x o p r l e m b k a le s =
    record {
      size = same_size p r m k (queued x (get p m) b) s ∙ a.size;
      len = len_now x p r m k b s ∙ omega (arith, a.len, a.size, length-append e b);
      so = twice x o p r l m k e b (rw get_length (omega (arith, a.len))) a.so s;
    }

---- put, by what the byte turns into

pub turns : (x : Settings) (o r : Output) (l l' : List ℕ) {e j : Expansion} → e ≡ j → OutputBecomes o l (queued x (get o l) (expanded_bytes j)) r l'
    → OutputBecomes o l (queued x (get o l) (expanded_bytes e)) r l'
turns x o r l l' {e} {j} p b =
    becomes o r l l' (queued x (get o l) (expanded_bytes j)) (queued x (get o l) (expanded_bytes e))
    (ap (λ (k : Expansion). queued x (get o l) (expanded_bytes k)) (sym p)) b
