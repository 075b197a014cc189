-- Laws of a change of ICANON, and one lemma for each way out of the functions. Assumes nothing.
use mathlib.Core.Path.{◌≡◌, refl, sym, ap, ◌∙◌}
use mathlib.Core.Bool.{Bool, true, false, cond}
use mathlib.Core.List.{List, [], ◌∷◌, ◌++◌, map, reverse, append-nil, map-append}
use Prim.Native.Nat.{ℕ, zero, suc, ◌+◌, ◌*◌, ◌/◌, ◌%◌, ◌<◌, ◌≤◌, min}
use native.Mathlib.Nat.{mod-mod, mod-add-mod}
use native.Mathlib.Numerals.{add-one}
use native.Mathlib.Omega.{arith}
use lib.ListN.{length, get_or, set, take, length-append, length-map}
use lib.Seq.{take_all, take-suc, get_or-set_other}
use lib.Dec.{ltb, eqb}
use borrow.Author.Tests.{lt-ltb, eqb-true, eqb-false}
use Rattle.queue.specs.Ring.{stores}
use Rattle.queue.specs.Queue.{held, changed}
use Rattle.queue.specs.declared.Queue.{Queue}
use Rattle.queue.proofs.Rings.{apart, stores_length, stores_snoc}
use Rattle.queue.proofs.Laws.{at_in, held_laid}
use Rattle.rules.specs.Sizes.{Place, Input as Ruled, used}
use Rattle.rules.specs.Settings.{stored, without_marks, changed_input}
use Rattle.input.specs.Contract.{place_of, bit, mark_of, byte_of, places, all, get, Sound}
use Rattle.input.specs.declared.Input.{Input}
use Rattle.input.proofs.Laws.{places_of, stored_all, used_of, get_of, After, numbers_are, all_long, all_at, literal_same}
use Rattle.input.proofs.reading.FirstLine.{nowhere}
use Rattle.input.specs.canonical.Contract.{Laid, GoesOff}
use Rattle.rules.proofs.Limits.{stored_length}

---- Places laid anew from the head on

-- stores before a place leave it as it was
stores_before : (N h k : ℕ) (l xs : List ℕ) → length xs ≤ k → k < N → get_or (stores N l h xs) ((h + k) % N) 0 ≡ get_or l ((h + k) % N) 0
stores_before N h k l [] le lt = refl
stores_before N h zero l (x ∷ xs) le lt = absurd (omega arith)
stores_before N h (suc k) l (x ∷ xs) le lt =
    let e : h + suc k ≡ suc h + k = omega arith in
    rw e (stores_before N (suc h) k (set l (h % N) x) xs (omega arith) (omega arith))
    ∙ get_or-set_other l (h % N) ((h + suc k) % N) x 0 (λ same. apart N h (suc k) (omega arith) lt same)

module _ (q : Queue) (l l' xs : List ℕ) (fit : q.len ≤ length l) (e : l' ≡ stores (length l) l (q.head % length l) xs) where
  pub laid_length : length l' ≡ length l
  laid_length = ap length e ∙ stores_length (length l) (q.head % length l) l xs

  -- what is read there is what was held
  pub held_before : (k : ℕ) → length xs ≤ k → k < q.len → get_or (held q l') k 0 ≡ get_or (held q l) k 0
  held_before k le lt =
      let N : ℕ = length l in
      let a : ℕ = (q.head % N + k) % N in
      sym
      (at_in q l' k a (omega (arith, laid_length)) (ap (λ (n : ℕ). (q.head % n + k) % n) (sym laid_length)))
      ∙ ap (λ (m : List ℕ). get_or m a 0) e
      ∙ stores_before N (q.head % N) k l xs le (omega arith)
      ∙ at_in q l k a (omega arith) refl

  -- one place more
  pub change_laid : (k b : ℕ) → length xs ≡ k → k < q.len
      → changed q l' k b ≡ stores (length l) l (q.head % length l) (xs ++ (b ∷ []))
  change_laid k b ek lt =
      let N : ℕ = length l in
      let t : ltb k (min q.len (length l')) ≡ true = lt-ltb k (min q.len (length l')) (omega (arith, laid_length)) in
      ap (λ (x : Bool). cond x (set l' ((q.head + k) % length l') b) l') t
      ∙ ap (λ (n : ℕ). set l' ((q.head + k) % n) b) laid_length
      ∙ ap (λ (m : List ℕ). set m ((q.head + k) % N) b) e
      ∙ ap (λ (n : ℕ). set (stores N l (q.head % N) xs) n b)
      (sym (mod-add-mod q.head N k) ∙ ap (λ (n : ℕ). (q.head % N + n) % N) (sym ek))
      ∙ sym (stores_snoc N (q.head % N) b l xs)

-- what is held after all of w is laid, finished
pub laid_after : (i : Input) (bs ms : List ℕ) (w : Ruled) (r : Input) (bs' ms' : List ℕ) → length bs ≡ length ms
    → length w.current ≡ 0 → used w ≤ length bs → Laid i bs ms w r bs' ms' → After w bs ms r bs' ms'
unfolding all
laid_after i bs ms w r bs' ms' e none le g =
    let N : ℕ = length bs in
    let f : List Place = w.finished in
    let long : (p : Place → ℕ) → used w ≡ length (map p f) = λ p. omega (arith, length-map f p) in
    let hb : held r.queue bs' ≡ map byte_of f =
    ap (λ (x : Input). held x.queue bs') g.input
    ∙ ap (held (record { head = i.queue.head % N; len = used w })) g.bytes
    ∙ ap (λ (x : ℕ). held (record { head = i.queue.head % N; len = x }) (stores N bs (i.queue.head % N) (map byte_of f))) (long byte_of)
    ∙ held_laid (i.queue.head % N) bs (map byte_of f) (omega (arith, long byte_of)) in
    let hm : held r.queue ms' ≡ map mark_of f =
    ap (λ (x : Input). held x.queue ms') g.input
    ∙ ap (λ (x : ℕ). held (record { head = i.queue.head % x; len = used w }) ms') e
    ∙ ap (held (record { head = i.queue.head % length ms; len = used w })) g.marks
    ∙ ap (λ (x : ℕ). held (record { head = i.queue.head % length ms; len = x }) (stores (length ms) ms (i.queue.head % length ms) (map mark_of f)))
    (long mark_of)
    ∙ held_laid (i.queue.head % length ms) ms (map mark_of f) (omega (arith, long mark_of)) in
    record {
      meaning =
          get_of r bs' ms' w
          (ap (λ (l : List ℕ). places l (held r.queue ms')) hb
          ∙ ap (places (map byte_of f)) hm
          ∙ places_of f
          ∙ sym (ap (λ (l : List Place). f ++ reverse l) (nothing w.current none) ∙ append-nil f))
          (ap (λ (x : Input). x.ready) g.input) (ap (λ (x : Input). x.literal) g.input);
      within =
          rw g.input (record { head = mod-mod i.queue.head N; len = le; ready = omega arith });
      bytes = ap length g.bytes ∙ stores_length N (i.queue.head % N) bs (map byte_of f);
      marks = ap length g.marks ∙ stores_length (length ms) (i.queue.head % length ms) ms (map mark_of f);
    }
  where
    nothing : (l : List Place) → length l ≡ 0 → l ≡ []
    nothing [] z = refl
    nothing (p ∷ l) z = absurd (omega arith)

-- no second result fits
pub one_laid : {i : Input} {bs ms : List ℕ} {w : Ruled} {r s : Input} {bs' ms' cs ns : List ℕ}
    → Laid i bs ms w r bs' ms' → Laid i bs ms w s cs ns → (r ≡ s) × (bs' ≡ cs) × (ms' ≡ ns)
one_laid h k = (h.input ∙ sym k.input, h.bytes ∙ sym k.bytes, h.marks ∙ sym k.marks)

---- The bits of a mark byte

pub bit_of_lem : (m : ℕ) → bit (eqb (m % 2) 1) ≡ m % 2
bit_of_lem m = by (eqb (m % 2) 1) refl
  where
    by : (t : Bool) → eqb (m % 2) 1 ≡ t → bit (eqb (m % 2) 1) ≡ m % 2
    by true e = rw e (sym (eqb-true (m % 2) 1 e))
    by false e = rw e (zero_left (m % 2) (omega arith) (eqb-false (m % 2) 1 e))
      where
        zero_left : (x : ℕ) → x < 2 → (x ≡ 1 → ⊥) → 0 ≡ x
        zero_left x lt ne = omega arith

---- ICANON goes off

without_cons : (p : Place) (ps : List Place) (t : Bool) → p.mark ≡ t → without_marks (p ∷ ps) ≡ cond t (without_marks ps) (p ∷ without_marks ps)
without_cons p ps t m = ap (λ (x : Bool). cond x (without_marks ps) (p ∷ without_marks ps)) m

without_append : (ps qs : List Place) → without_marks (ps ++ qs) ≡ without_marks ps ++ without_marks qs
without_append [] qs = refl
without_append (p ∷ ps) qs = by p.mark refl (without_append ps qs)
  where
    by : (t : Bool) → p.mark ≡ t → without_marks (ps ++ qs) ≡ without_marks ps ++ without_marks qs
        → without_marks (p ∷ ps ++ qs) ≡ without_marks (p ∷ ps) ++ without_marks qs
    by true m e = without_cons p (ps ++ qs) true m ∙ e ∙ ap (λ (l : List Place). l ++ without_marks qs) (sym (without_cons p ps true m))
    by false m e =
        without_cons p (ps ++ qs) false m
        ∙ ap (λ (l : List Place). p ∷ l) e
        ∙ ap (λ (l : List Place). l ++ without_marks qs) (sym (without_cons p ps false m))

without_length : (ps : List Place) → length (without_marks ps) ≤ length ps
without_length [] = omega arith
without_length (p ∷ ps) = by p.mark refl (without_length ps)
  where
    by : (t : Bool) → p.mark ≡ t → length (without_marks ps) ≤ length ps → length (without_marks (p ∷ ps)) ≤ length (p ∷ ps)
    by true m le = rw m (omega arith)
    by false m le = rw m (omega arith)

-- the four bits of a mark byte
mark_bits : (b m : ℕ) → m % 16 ≡ mark_of (place_of b m)
mark_bits b m =
    sym
    (ap (λ (x : ℕ). x + 2 * bit (eqb (m / 2 % 2) 1) + 4 * bit (eqb (m / 4 % 2) 1) + 8 * bit (eqb (m / 8 % 2) 1)) (bit_of_lem m)
    ∙ ap (λ (x : ℕ). m % 2 + 2 * x + 4 * bit (eqb (m / 4 % 2) 1) + 8 * bit (eqb (m / 8 % 2) 1)) (bit_of_lem (m / 2))
    ∙ ap (λ (x : ℕ). m % 2 + 2 * (m / 2 % 2) + 4 * x + 8 * bit (eqb (m / 8 % 2) 1)) (bit_of_lem (m / 4))
    ∙ ap (λ (x : ℕ). m % 2 + 2 * (m / 2 % 2) + 4 * (m / 4 % 2) + 8 * x) (bit_of_lem (m / 8))
    ∙ sum)
  where
    half : m / 2 ≡ 2 * (m / 4) + m / 2 % 2
    half = omega arith

    fourth : m / 4 ≡ 2 * (m / 8) + m / 4 % 2
    fourth = omega arith

    eighth : m / 8 ≡ 2 * (m / 16) + m / 8 % 2
    eighth = omega arith

    sum : m % 2 + 2 * (m / 2 % 2) + 4 * (m / 4 % 2) + 8 * (m / 8 % 2) ≡ m % 16
    sum = omega (arith, half, fourth, eighth)

-- what is kept of the first k places
abbrev pub kept_of : Input → List ℕ → List ℕ → ℕ → List Place
kept_of i bs ms k = without_marks (take k (all i bs ms))

-- the loop of without_marks, after k places
pub record Keeps (i : Input) (bs ms : List ℕ) (k kept : ℕ) (bs' ms' : List ℕ) : Type 0 where
  pub upto : k ≤ i.queue.len
  pub count : length (kept_of i bs ms k) ≡ kept
  pub few : kept ≤ k
  pub bytes : bs' ≡ stores (length bs) bs (i.queue.head % length bs) (map byte_of (kept_of i bs ms k))
  pub marks : ms' ≡ stores (length ms) ms (i.queue.head % length ms) (map mark_of (kept_of i bs ms k))
  pub long : length bs' ≡ length bs
  pub wide : length ms' ≡ length ms

module _ (i : Input) (bs ms : List ℕ) (h : Sound i bs ms) where
  marks_fit : i.queue.len ≤ length ms
  marks_fit = rw (← h.same) h.within.len

  module _ (k kept : ℕ) (bs' ms' : List ℕ) (g : Keeps i bs ms k kept bs' ms') (lt : k < i.queue.len) where
    kept_next : kept_of i bs ms (k + 1) ≡ kept_of i bs ms k ++ without_marks (get_or (all i bs ms) k nowhere ∷ [])
    kept_next =
        ap (λ (x : ℕ). kept_of i bs ms x) (add-one k)
        ∙ ap without_marks (take-suc (all i bs ms) k nowhere (omega (arith, all_long i bs ms h.same h.within)))
        ∙ without_append (take k (all i bs ms)) (get_or (all i bs ms) k nowhere ∷ [])

    laid_few : (f : Place → ℕ) → length (map f (kept_of i bs ms k)) ≤ k
    laid_few f = omega (arith, length-map (kept_of i bs ms k) f, g.count, g.few)

    -- the mark byte that is read
    mark_is : (m : ℕ) → m ≡ get_or (held i.queue ms') k 0 → m ≡ get_or (held i.queue ms) k 0
    mark_is m em = em ∙ held_before i.queue ms ms' (map mark_of (kept_of i bs ms k)) marks_fit g.marks k (laid_few mark_of) lt

    pub keeps_skip : (m : ℕ) (t : Bool) → m ≡ get_or (held i.queue ms') k 0 → t ≡ eqb (m / 4 % 2) 1 → t ≡ true
        → Keeps i bs ms (k + 1) kept bs' ms'
    keeps_skip m t em et tt =
        let p : Place = get_or (all i bs ms) k nowhere in
        let mark : p.mark ≡ true =
        ap (λ (x : Place). x.mark) (all_at i bs ms h.same h.within k nowhere lt) ∙ ap (λ (x : ℕ). eqb (x / 4 % 2) 1) (sym (mark_is m em)) ∙ sym et
        ∙ tt in
        let none : without_marks (p ∷ []) ≡ [] = ap (λ (x : Bool). cond x [] (p ∷ [])) mark in
        let same : kept_of i bs ms (k + 1) ≡ kept_of i bs ms k =
        kept_next ∙ ap (◌++◌ (kept_of i bs ms k)) none ∙ append-nil (kept_of i bs ms k) in
        record {
          upto = omega arith;
          count = ap length same ∙ g.count;
          few = omega (arith, g.few);
          bytes = g.bytes ∙ ap (λ (l : List Place). stores (length bs) bs (i.queue.head % length bs) (map byte_of l)) (sym same);
          marks = g.marks ∙ ap (λ (l : List Place). stores (length ms) ms (i.queue.head % length ms) (map mark_of l)) (sym same);
          long = g.long;
          wide = g.wide;
        }

    pub keeps_more : (m b : ℕ) (t : Bool) (bs'' ms'' : List ℕ) → m ≡ get_or (held i.queue ms') k 0 → t ≡ eqb (m / 4 % 2) 1 → t ≡ false
        → b ≡ get_or (held i.queue bs') k 0 → bs'' ≡ changed i.queue bs' kept b → ms'' ≡ changed i.queue ms' kept (m % 16)
        → Keeps i bs ms (k + 1) (kept + 1) bs'' ms''
    keeps_more m b t bs'' ms'' em et tf eb ebs ems =
        let q : Queue = i.queue in
        let K : List Place = kept_of i bs ms k in
        let p : Place = place_of b m in
        let byte : b ≡ get_or (held q bs) k 0 =
        eb ∙ held_before q bs bs' (map byte_of K) h.within.len g.bytes k (laid_few byte_of) lt in
        let at : get_or (all i bs ms) k nowhere ≡ p =
        all_at i bs ms h.same h.within k nowhere lt
        ∙ ap (λ (x : ℕ). place_of x (get_or (held q ms) k 0)) (sym byte)
        ∙ ap (place_of b) (sym (mark_is m em)) in
        let one : without_marks (p ∷ []) ≡ p ∷ [] = ap (λ (x : Bool). cond x [] (p ∷ [])) (sym et ∙ tf) in
        let more : kept_of i bs ms (k + 1) ≡ K ++ (p ∷ []) =
        kept_next ∙ ap (λ (x : Place). K ++ without_marks (x ∷ [])) at ∙ ap (◌++◌ K) one in
        let by : (f : Place → ℕ) → map f K ++ (f p ∷ []) ≡ map f (kept_of i bs ms (k + 1)) =
        λ f. sym (ap (map f) more ∙ map-append f K (p ∷ [])) in
        let size : (f : Place → ℕ) → length (map f K) ≡ kept = λ f. length-map K f ∙ g.count in
        let in' : kept < q.len = omega (arith, g.few) in
        let bytes : bs'' ≡ stores (length bs) bs (q.head % length bs) (map byte_of (kept_of i bs ms (k + 1))) =
        ebs
        ∙ change_laid q bs bs' (map byte_of K) h.within.len g.bytes kept b (size byte_of) in'
        ∙ ap (stores (length bs) bs (q.head % length bs)) (by byte_of) in
        let marks : ms'' ≡ stores (length ms) ms (q.head % length ms) (map mark_of (kept_of i bs ms (k + 1))) =
        ems
        ∙ ap (changed q ms' kept) (mark_bits b m)
        ∙ change_laid q ms ms' (map mark_of K) marks_fit g.marks kept (mark_of p) (size mark_of) in'
        ∙ ap (stores (length ms) ms (q.head % length ms)) (by mark_of) in
        record {
          upto = omega arith;
          count = ap length more ∙ length-append K (p ∷ []) ∙ ap (λ (x : ℕ). x + 1) g.count;
          few = omega (arith, g.few);
          bytes = bytes;
          marks = marks;
          long = ap length bytes ∙ stores_length (length bs) (q.head % length bs) bs (map byte_of (kept_of i bs ms (k + 1)));
          wide = ap length marks ∙ stores_length (length ms) (q.head % length ms) ms (map mark_of (kept_of i bs ms (k + 1)));
        }

  pub keeps_end : (k kept : ℕ) (bs' ms' : List ℕ) → Keeps i bs ms k kept bs' ms' → i.queue.len ≤ k
      → GoesOff i bs ms (record { queue = record { head = i.queue.head; len = kept }; ready = kept; literal = i.literal }) bs' ms'
  keeps_end k kept bs' ms' g le =
      let K : List Place = without_marks (stored (get i bs ms)) in
      let whole : kept_of i bs ms k ≡ K =
      ap without_marks (take_all k (all i bs ms) (omega (arith, all_long i bs ms h.same h.within)) ∙ sym (stored_all i bs ms)) in
      let size : length K ≡ kept = ap length (sym whole) ∙ g.count in
      record {
        input =
            numbers_are i.queue.head (i.queue.head % length bs) kept (length K + 0) kept (length K) i.literal (get i bs ms).literal_next
            (sym h.within.head) (omega (arith, size)) (sym size) (sym (literal_same i bs ms));
        bytes = g.bytes ∙ ap (λ (l : List Place). stores (length bs) bs (i.queue.head % length bs) (map byte_of l)) whole;
        marks = g.marks ∙ ap (λ (l : List Place). stores (length ms) ms (i.queue.head % length ms) (map mark_of l)) whole;
      }

  ---- What is held after it

  off_used : used (changed_input true false (get i bs ms)) ≤ length bs
  off_used =
      omega (arith, without_length (stored (get i bs ms)), stored_length (get i bs ms), used_of i bs ms h.same h.within, h.within.len)

  pub off_after : (r : Input) (bs' ms' : List ℕ) → GoesOff i bs ms r bs' ms'
      → After (changed_input true false (get i bs ms)) bs ms r bs' ms'
  off_after r bs' ms' g = laid_after i bs ms (changed_input true false (get i bs ms)) r bs' ms' h.same refl off_used g
