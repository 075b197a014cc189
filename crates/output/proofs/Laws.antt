-- Laws of get and put, and how calls compose. Assumes nothing.
use mathlib.Core.Path.{◌≡◌, sym, ap, ◌∙◌}
use mathlib.Core.List.{List, [], ◌∷◌, ◌++◌}
use Prim.Native.Nat.{ℕ, ◌+◌, ◌%◌, ◌<◌, ◌≤◌, min}
use native.Mathlib.Nat.{mod-mod}
use native.Mathlib.Omega.{arith}
use lib.ListN.{length, length-append}
use borrow.Author.Tests.{le-leb, lt-leb}
use Rattle.queue.specs.Ring.{stores}
use Rattle.queue.specs.Queue.{held, laid, appended, Holds}
use Rattle.queue.specs.declared.Queue.{Queue}
use Rattle.queue.proofs.Rings.{stores_length}
use Rattle.queue.proofs.Laws.{held_length, held_fitted, held_laid, laid_again, laid_fitted, stored_more, holds_room}
use Rattle.rules.specs.declared.Settings.{Settings}
use Rattle.rules.specs.Sizes.{Output as Ruled}
use Rattle.rules.specs.Output.{column_after, queued, queued_whole}
use Rattle.rules.proofs.OutputLaws.{queued_append, queued_none}
use Rattle.output.specs.Contract.{in_range, get, put, OutputBecomes}
use Rattle.output.specs.declared.Output.{Output}

pub get_length : (o : Output) (l : List ℕ) → length (get o l).queue ≡ min o.queue.len (length l)
unfolding get
get_length o l = held_length o.queue l

pub get_room : (o : Output) (l : List ℕ) → length (get o l).queue ≤ length l
get_room o l = rw get_length (omega arith)

-- what is put within the size comes back
pub get_put : (w : Ruled) (h : ℕ) (l : List ℕ) → length w.queue ≤ length l → get (put w h) (stores (length l) l h w.queue) ≡ w
unfolding get
get_put w h l le = ap (λ (c : List ℕ). record { queue = c; column = w.column; stopped = w.stopped }) (held_laid h l w.queue le)

module _ (o r : Output) (l l' : List ℕ) (w : Ruled) (b : OutputBecomes o l w r l') where
  pub same_size : length l' ≡ length l
  same_size = ap length b.slice ∙ stores_length (length l) (o.queue.head % length l) l w.queue

  pub head_after : r.queue.head ≡ o.queue.head % length l
  head_after = ap (λ (x : Output). x.queue.head) b.output

  pub len_after : r.queue.len ≡ length w.queue
  len_after = ap (λ (x : Output). x.queue.len) b.output

  pub column_after_lem : r.column ≡ w.column
  column_after_lem = ap (λ (x : Output). x.column) b.output

  -- what the output is then, is w
  pub get_after : length w.queue ≤ length l → get r l' ≡ w
  get_after le =
      ap (λ (x : Output). get x l') b.output
      ∙ ap (get (put w (o.queue.head % length l))) b.slice
      ∙ get_put w (o.queue.head % length l) l le

  -- and more behind it
  pub and_then : (x : Settings) (e : List ℕ) (t : Output) (k : List ℕ) → length w.queue ≤ length l
      → OutputBecomes r l' (queued x w e) t k → OutputBecomes o l (queued x w e) t k
  and_then x e t k le c =
      let g : ℕ = o.queue.head % length l in
      let h : r.queue.head % length l' ≡ g =
      ap (λ (y : ℕ). r.queue.head % y) same_size ∙ ap (λ (y : ℕ). y % length l) head_after ∙ mod-mod o.queue.head (length l) in
      record {
        output = c.output ∙ ap (put (queued x w e)) h;
        slice =
            c.slice
            ∙ ap (λ (y : ℕ). stores y l' (r.queue.head % length l') (w.queue ++ e)) same_size
            ∙ ap (λ (y : ℕ). stores (length l) l' y (w.queue ++ e)) h
            ∙ ap (λ (y : List ℕ). stores (length l) y g (w.queue ++ e)) b.slice
            ∙ stored_more (length l) g l w.queue e (omega arith) le;
      }

-- another name for the same
pub becomes : (o r : Output) (l l' : List ℕ) (w v : Ruled) → w ≡ v → OutputBecomes o l w r l' → OutputBecomes o l v r l'
becomes o r l l' w v e b =
    record {
      output = b.output ∙ ap (λ (y : Ruled). put y (o.queue.head % length l)) e;
      slice = b.slice ∙ ap (λ (y : Ruled). stores (length l) l (o.queue.head % length l) y.queue) e;
    }

-- nothing changes but that the numbers are in range
pub stays : (o : Output) (l : List ℕ) → OutputBecomes o l (get o l) (in_range (length l) o) l
unfolding get
stays o l =
    record {
      output = ap (λ (q : Queue). record { queue = q; column = o.column; stopped = o.stopped }) (laid_fitted o.queue l);
      slice = laid_again o.queue l;
    }

pub stays_none : (x : Settings) (o : Output) (l : List ℕ) → OutputBecomes o l (queued x (get o l) []) (in_range (length l) o) l
stays_none x o l = becomes o (in_range (length l) o) l l (get o l) (queued x (get o l) []) (sym (queued_none x (get o l))) (stays o l)

-- a byte pushed, and the column after it
pub pushed : (x : Settings) (o : Output) (l l' : List ℕ) (q : Queue) (b c : ℕ) → o.queue.len < length l → c ≡ column_after x o.column b
    → Holds o.queue l (appended (length l) (held o.queue l) (b ∷ [])) q l'
    → OutputBecomes o l (queued x (get o l) (b ∷ [])) (record { queue = q; column = c; stopped = o.stopped }) l'
unfolding get
pushed x o l l' q b c lt ec h =
    let k : Holds o.queue l (held o.queue l ++ (b ∷ [])) q l' = holds_room o.queue q l l' (b ∷ []) (omega arith) h in
    record {
      output =
          ap (λ (y : Queue). record { queue = y; column = c; stopped = o.stopped }) k.queue
          ∙ ap (λ (y : ℕ). record { queue = laid (o.queue.head % length l) (held o.queue l ++ (b ∷ [])); column = y; stopped = o.stopped }) ec;
      slice = k.ring;
    }

-- two runs, one behind the other
pub twice : (x : Settings) (o p r : Output) (l m k a b : List ℕ) → length (get o l).queue + length a ≤ length l
    → OutputBecomes o l (queued x (get o l) a) p m → OutputBecomes p m (queued x (get p m) b) r k → OutputBecomes o l (queued x (get o l) (a ++ b)) r k
twice x o p r l m k a b le f s =
    let w : Ruled = queued x (get o l) a in
    let fit : length w.queue ≤ length l = rw length-append le in
    let again : OutputBecomes p m (queued x w b) r k =
    becomes p r m k (queued x (get p m) b) (queued x w b) (ap (λ (y : Ruled). queued x y b) (get_after o p l m w f fit)) s in
    becomes o r l k (queued x w b) (queued x (get o l) (a ++ b)) (sym (queued_append x (get o l) a b)) (and_then o p l m w f x b r k fit again)

-- whole, or not at all
pub whole_fits : (N : ℕ) (x : Settings) (o : Ruled) (e : List ℕ) → length o.queue + length e ≤ N → queued_whole N x o e ≡ queued x o e
whole_fits N x o e le = rw (le-leb (length o.queue + length e) N le)

pub whole_full : (N : ℕ) (x : Settings) (o : Ruled) (e : List ℕ) → N < length o.queue + length e → queued_whole N x o e ≡ o
whole_full N x o e lt = rw (lt-leb (length o.queue + length e) N lt)

-- how many are queued after a run
pub len_now : (x : Settings) (o r : Output) (l l' e : List ℕ) → OutputBecomes o l (queued x (get o l) e) r l'
    → r.queue.len ≡ min o.queue.len (length l) + length e
len_now x o r l l' e b =
    len_after o r l l' (queued x (get o l) e) b ∙ length-append (get o l).queue e ∙ ap (λ (k : ℕ). k + length e) (get_length o l)

pub get_range : (o : Output) (l : List ℕ) → get (in_range (length l) o) l ≡ get o l
unfolding get
get_range o l = ap (λ (c : List ℕ). record { queue = c; column = o.column; stopped = o.stopped }) (held_fitted o.queue l)

-- from the output in range
pub via_range : (o p r : Output) (l l' : List ℕ) (f : Ruled → Ruled) → p ≡ in_range (length l) o → OutputBecomes p l (f (get p l)) r l'
    → OutputBecomes o l (f (get o l)) r l'
via_range o p r l l' f e b =
    let g : get p l ≡ get o l = ap (λ (y : Output). get y l) e ∙ get_range o l in
    let h : p.queue.head % length l ≡ o.queue.head % length l =
    ap (λ (y : Output). y.queue.head % length l) e ∙ mod-mod o.queue.head (length l) in
    record {
      output = b.output ∙ ap (λ (y : Ruled). put (f y) (p.queue.head % length l)) g ∙ ap (put (f (get o l))) h;
      slice =
          b.slice
          ∙ ap (λ (y : Ruled). stores (length l) l (p.queue.head % length l) (f y).queue) g
          ∙ ap (λ (y : ℕ). stores (length l) l y (f (get o l)).queue) h;
    }

---- From the output in range: p is o with its numbers in range

range_again : (n : ℕ) (o : Output) → in_range n (in_range n o) ≡ in_range n o
range_again n o =
    let m : min (min o.queue.len n) n ≡ min o.queue.len n = omega arith in
    λ i. record { queue = record { head = mod-mod o.queue.head n i; len = m i }; column = o.column; stopped = o.stopped }

module _ (x : Settings) (o p : Output) (l : List ℕ) (e : p ≡ in_range (length l) o) where
  pub range_len : p.queue.len ≡ min o.queue.len (length l)
  range_len = ap (λ (y : Output). y.queue.len) e

  pub range_get : length (get p l).queue ≡ p.queue.len
  range_get = get_length p l ∙ omega (arith, range_len)

  -- a run begins
  pub start_run : OutputBecomes p l (queued x (get p l) []) p l
  start_run =
      let same : in_range (length l) p ≡ p = ap (in_range (length l)) e ∙ range_again (length l) o ∙ sym e in
      let b : OutputBecomes p l (queued x (get p l) []) (in_range (length l) p) l = stays_none x p l in
      record { output = sym same ∙ b.output; slice = b.slice }

  -- whole, if it fits
  pub fits_of : (r : Output) (l' f : List ℕ) → p.queue.len + length f ≤ length l → OutputBecomes p l (queued x (get p l) f) r l'
      → OutputBecomes o l (queued_whole (length l) x (get o l) f) r l'
  fits_of r l' f le b =
      via_range o p r l l' (λ (w : Ruled). queued_whole (length l) x w f) e
      (becomes p r l l' (queued x (get p l) f) (queued_whole (length l) x (get p l) f) (sym (whole_fits (length l) x (get p l) f (rw range_get le))) b)

  -- not at all, if it does not
  pub full_of : (f : List ℕ) → length l < p.queue.len + length f → OutputBecomes o l (queued_whole (length l) x (get o l) f) p l
  full_of f lt =
      let w : queued_whole (length l) x (get o l) f ≡ get o l = whole_full (length l) x (get o l) f (rw get_length (omega (arith, range_len))) in
      let b : OutputBecomes o l (get o l) (in_range (length l) o) l = stays o l in
      becomes o p l l (get o l) (queued_whole (length l) x (get o l) f) (sym w) (record { output = e ∙ b.output; slice = b.slice })

---- put

-- nothing to put: the output in range
pub range_none : (x : Settings) (o p : Output) (l : List ℕ) → p ≡ in_range (length l) o → OutputBecomes o l (queued x (get o l) []) p l
range_none x o p l e =
    let b : OutputBecomes o l (queued x (get o l) []) (in_range (length l) o) l = stays_none x o l in
    record { output = e ∙ b.output; slice = b.slice }
