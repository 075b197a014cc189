-- Laws of one line, and one lemma for each way out of `one_line`. Assumes nothing.
use mathlib.Core.Path.{◌≡◌, refl, sym, ap, ◌∙◌}
use mathlib.Core.Bool.{Bool, true, false}
use mathlib.Core.List.{List, [], ◌∷◌, ◌++◌, map}
use Prim.Native.Nat.{ℕ, zero, suc, ◌+◌, ◌*◌, ◌/◌, ◌%◌, ◌<◌, ◌≤◌, min}
use native.Mathlib.Nat.{suc-add}
use native.Mathlib.Numerals.{add-one}
use native.Mathlib.Omega.{arith}
use lib.ListN.{length, get_or, take, length-map}
use lib.Seq.{take_all, take-suc, length-take-le}
use lib.Dec.{eqb, eqb-suc-suc}
use borrow.Author.Tests.{ne_eqb}
use Rattle.queue.specs.Ring.{stores}
use Rattle.queue.specs.Queue.{held, changed}
use Rattle.queue.specs.declared.Queue.{Queue}
use Rattle.queue.proofs.Rings.{stores_length}
use Rattle.queue.proofs.Laws.{held_length, laid_again}
use Rattle.rules.specs.Sizes.{Place, used}
use Rattle.rules.specs.Settings.{stored, ends_here, one_line, changed_input}
use Rattle.input.specs.Contract.{place_of, bit, mark_of, byte_of, places, all, get, Within, Sound}
use Rattle.input.specs.declared.Input.{Input}
use Rattle.input.proofs.Laws.{stored_all, used_of, After, numbers_are, literal_same}
use Rattle.input.proofs.reading.Laws.{bytes_all, held_same}
use Rattle.input.proofs.canonical.GoesOff.{held_before, change_laid, laid_after, one_laid, bit_of_lem}
use Rattle.input.specs.canonical.Contract.{GoesOn, in_line}
use Rattle.rules.proofs.Limits.{stored_length}

-- no second result fits
pub one_line_on : {i : Input} {ms : List ℕ} {r s : Input} {ms' ns : List ℕ} → GoesOn i ms r ms' → GoesOn i ms s ns → (r ≡ s) × (ms' ≡ ns)
one_line_on {ms = ms} h k =
    let same = one_laid (h ms refl) (k ms refl) in
    (same.0, same.2)

---- ICANON goes on

-- the mark bytes of one line
abbrev pub line_marks : List ℕ → List ℕ
line_marks [] = []
line_marks (m ∷ []) = in_line true m ∷ []
line_marks (m ∷ n ∷ ms) = in_line false m ∷ line_marks (n ∷ ms)

line_marks_length : (ys : List ℕ) → length (line_marks ys) ≡ length ys
line_marks_length [] = refl
line_marks_length (m ∷ []) = refl
line_marks_length (m ∷ n ∷ ms) = ap suc (line_marks_length (n ∷ ms))

line_marks_at : (ys : List ℕ) (k : ℕ) → k < length ys → get_or (line_marks ys) k 0 ≡ in_line (eqb (k + 1) (length ys)) (get_or ys k 0)
line_marks_at [] k lt = absurd (omega arith)
line_marks_at (m ∷ []) zero lt = refl
line_marks_at (m ∷ []) (suc k) lt = absurd (omega arith)
line_marks_at (m ∷ n ∷ ms) zero lt =
    ap (λ (t : Bool). in_line t m) (sym (ne_eqb (0 + 1) (length (m ∷ n ∷ ms)) (λ e. omega (arith, e))))
line_marks_at (m ∷ n ∷ ms) (suc k) lt =
    line_marks_at (n ∷ ms) k (omega arith)
    ∙ ap (λ (t : Bool). in_line t (get_or (n ∷ ms) k 0))
    (sym (ap (λ (x : ℕ). eqb x (length (m ∷ n ∷ ms))) (suc-add k 1) ∙ eqb-suc-suc (k + 1) (length (n ∷ ms))))

mark_in_line : (t : Bool) (b m : ℕ) → mark_of (ends_here t (place_of b m)) ≡ in_line t m
mark_in_line t b m =
    ap (λ (x : ℕ). x + 2 * bit t + 4 * 0 + 8 * bit (eqb (m / 8 % 2) 1)) (bit_of_lem m)
    ∙ ap (λ (x : ℕ). m % 2 + 2 * bit t + 4 * 0 + 8 * x) (bit_of_lem (m / 8))
    ∙ sums (m % 2) (bit t) (m / 8 % 2)
  where
    sums : (a b c : ℕ) → a + 2 * b + 4 * 0 + 8 * c ≡ a + 2 * b + 8 * c
    sums a b c = omega arith

marks_one_line : (xs ys : List ℕ) → length xs ≡ length ys → map mark_of (one_line (places xs ys)) ≡ line_marks ys
marks_one_line [] [] e = refl
marks_one_line [] (y ∷ ys) e = absurd (omega arith)
marks_one_line (x ∷ xs) [] e = absurd (omega arith)
marks_one_line (x ∷ []) (y ∷ []) e = ap (λ (m : ℕ). m ∷ []) (mark_in_line true x y)
marks_one_line (x ∷ []) (y ∷ z ∷ ys) e = absurd (omega arith)
marks_one_line (x ∷ w ∷ xs) (y ∷ []) e = absurd (omega arith)
marks_one_line (x ∷ w ∷ xs) (y ∷ z ∷ ys) e =
    let a : mark_of (ends_here false (place_of x y)) ≡ in_line false y = mark_in_line false x y in
    ap (λ (m : ℕ). m ∷ map mark_of (one_line (places (w ∷ xs) (z ∷ ys)))) a
    ∙ ap (λ (l : List ℕ). in_line false y ∷ l) (marks_one_line (w ∷ xs) (z ∷ ys) (omega arith))

bytes_one_line : (ps : List Place) → map byte_of (one_line ps) ≡ map byte_of ps
bytes_one_line [] = refl
bytes_one_line (p ∷ []) = refl
bytes_one_line (p ∷ q ∷ ps) = ap (λ (l : List ℕ). p.byte ∷ l) (bytes_one_line (q ∷ ps))

one_line_length : (ps : List Place) → length (one_line ps) ≡ length ps
one_line_length ps =
    sym (length-map (one_line ps) byte_of) ∙ ap length (bytes_one_line ps) ∙ length-map ps byte_of

-- the loop of one_line, after k places
pub record Lined (i : Input) (ms : List ℕ) (k : ℕ) (ms' : List ℕ) : Type 0 where
  pub upto : k ≤ i.queue.len
  pub marks : ms' ≡ stores (length ms) ms (i.queue.head % length ms) (take k (line_marks (held i.queue ms)))
  pub long : length ms' ≡ length ms

module _ (i : Input) (ms : List ℕ) (h : Within i (length ms)) where
  held_long : length (held i.queue ms) ≡ i.queue.len
  held_long = held_length i.queue ms ∙ lesser
    where
      lesser : min i.queue.len (length ms) ≡ i.queue.len
      lesser = omega (arith, h.len)

  pub line_next : (k m b : ℕ) (ms' ms'' : List ℕ) → Lined i ms k ms' → k < i.queue.len → m ≡ get_or (held i.queue ms') k 0
      → b ≡ in_line (eqb (k + 1) i.queue.len) m → ms'' ≡ changed i.queue ms' k b → Lined i ms (k + 1) ms''
  line_next k m b ms' ms'' g lt em eb e =
      let q : Queue = i.queue in
      let W : List ℕ = line_marks (held q ms) in
      let size : length W ≡ q.len = line_marks_length (held q ms) ∙ held_long in
      let some : length (take k W) ≡ k = length-take-le k W (omega (arith, size)) in
      let at : b ≡ get_or W k 0 =
      eb
      ∙ ap (in_line (eqb (k + 1) q.len)) (em ∙ held_before q ms ms' (take k W) h.len g.marks k (omega (arith, some)) lt)
      ∙ ap (λ (x : ℕ). in_line (eqb (k + 1) x) (get_or (held q ms) k 0)) (sym held_long)
      ∙ sym (line_marks_at (held q ms) k (omega (arith, held_long))) in
      let more : take k W ++ (b ∷ []) ≡ take (k + 1) W =
      ap (λ (x : ℕ). take k W ++ (x ∷ [])) at
      ∙ sym (ap (λ (x : ℕ). take x W) (add-one k) ∙ take-suc W k 0 (omega (arith, size))) in
      let marks : ms'' ≡ stores (length ms) ms (q.head % length ms) (take (k + 1) W) =
      e ∙ change_laid q ms ms' (take k W) h.len g.marks k b some lt ∙ ap (stores (length ms) ms (q.head % length ms)) more in
      record { upto = omega arith; marks = marks; long = ap length marks ∙ stores_length (length ms) (q.head % length ms) ms (take (k + 1) W) }

  pub line_end : (k : ℕ) (ms' : List ℕ) → Lined i ms k ms' → i.queue.len ≤ k
      → GoesOn i ms (record { queue = i.queue; ready = i.queue.len; literal = i.literal }) ms'
  unfolding all
  line_end k ms' g le bs e =
      let q : Queue = i.queue in
      let N : ℕ = length bs in
      let W : List ℕ = line_marks (held q ms) in
      let v : Within i N = rw e h in
      let sound : Sound i bs ms = record { same = e; within = v } in
      let all_is : stored (get i bs ms) ≡ places (held q bs) (held q ms) = stored_all i bs ms in
      let same : length (held q bs) ≡ length (held q ms) = held_same i bs ms sound in
      let marks : map mark_of (one_line (stored (get i bs ms))) ≡ W =
      ap (λ (l : List Place). map mark_of (one_line l)) all_is ∙ marks_one_line (held q bs) (held q ms) same in
      let bytes : map byte_of (one_line (stored (get i bs ms))) ≡ held q bs =
      bytes_one_line (stored (get i bs ms))
      ∙ ap (map byte_of) all_is
      ∙ bytes_all (held q bs) (held q ms) same in
      let size : length (one_line (stored (get i bs ms))) ≡ q.len =
      sym (length-map (one_line (stored (get i bs ms))) mark_of) ∙ ap length marks ∙ line_marks_length (held q ms) ∙ held_long in
      record {
        input =
            numbers_are q.head (q.head % N) q.len (length (one_line (stored (get i bs ms))) + 0) q.len (length (one_line (stored (get i bs ms))))
            i.literal (get i bs ms).literal_next
            (sym v.head) (omega (arith, size)) (sym size) (sym (literal_same i bs ms));
        bytes = laid_again q bs ∙ ap (stores N bs (q.head % N)) (sym bytes);
        marks =
            g.marks
            ∙ ap (stores (length ms) ms (q.head % length ms)) (take_all k W (omega (arith, line_marks_length (held q ms), held_long)) ∙ sym marks);
      }

---- What is held after it

module _ (i : Input) (bs ms : List ℕ) (h : Sound i bs ms) where
  on_used : used (changed_input false true (get i bs ms)) ≤ length bs
  on_used =
      omega (arith, one_line_length (stored (get i bs ms)), stored_length (get i bs ms), used_of i bs ms h.same h.within, h.within.len)

  pub on_after : (r : Input) (ms' : List ℕ) → GoesOn i ms r ms' → After (changed_input false true (get i bs ms)) bs ms r bs ms'
  on_after r ms' g =
      laid_after i bs ms (changed_input false true (get i bs ms)) r bs ms' h.same refl on_used (g bs h.same)
