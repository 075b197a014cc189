-- Where the first line ends. Assumes nothing.
use mathlib.Core.Path.{◌≡◌, refl, ap, ◌∙◌}
use mathlib.Core.Bool.{Bool, true, false}
use mathlib.Core.List.{List, [], ◌∷◌}
use Prim.Native.Nat.{ℕ, zero, suc, ◌+◌, ◌-◌, ◌/◌, ◌%◌, ◌<◌, ◌≤◌, min}
use native.Mathlib.Nat.{add-zero, suc-add, sub-zero, zero-add}
use native.Mathlib.Omega.{arith}
use lib.ListN.{length, get_or, take, drop, length-take, length-drop, length-map}
use lib.Seq.{get_or-take, get_or-drop}
use lib.Dec.{eqb}
use Rattle.queue.specs.Queue.{held}
use Rattle.queue.proofs.Laws.{held_length}
use Rattle.rules.specs.Sizes.{Place}
use Rattle.rules.specs.Reads.{first_line, first_bytes}
use Rattle.input.specs.Contract.{place_of, byte_of, places, all, get, Within}
use Rattle.input.specs.declared.Input.{Input}
use Rattle.input.proofs.Laws.{places_at, finished_length}
use Rattle.input.specs.reading.Contract.{Splits, TellsLine}

abbrev pub nowhere : Place
nowhere = place_of 0 0

-- whether place k is an end-of-file mark, and whether a line ends with it
abbrev pub marked : List ℕ → ℕ → Bool
marked ys k = eqb (get_or ys k 0 / 4 % 2) 1

abbrev pub ending : List ℕ → ℕ → Bool
ending ys k = eqb (get_or ys k 0 / 2 % 2) 1

-- the first k mark bytes: no end-of-file mark, no end of a line
abbrev pub Plain : List ℕ → ℕ → Type 0
Plain ys k = (j : ℕ) → j < k → (marked ys j ≡ false) × (ending ys j ≡ false)

-- the same of places
abbrev PlainPlaces : List Place → ℕ → Type 0
PlainPlaces ps k = (j : ℕ) → j < k → ((get_or ps j nowhere).mark ≡ false) × ((get_or ps j nowhere).ends ≡ false)

-- one place of the line more
one_more : (n c t : ℕ) (p : Place) (ps : List Place) → p.mark ≡ false → p.ends ≡ false → Splits (first_line n ps) ps c t
    → Splits (first_line (suc n) (p ∷ ps)) (p ∷ ps) (suc c) (suc t)
one_more n c t p ps m e r =
    rw (m, e)
    (record {
      bytes = ap (λ (l : List ℕ). p.byte ∷ l) r.bytes;
      left = r.left;
      upto = omega (arith, r.upto);
      all = omega (arith, r.all);
    })

-- behind the first k places, the line goes on as if it began there
splits_on : (k n c t : ℕ) (ps : List Place) → k ≤ n → k ≤ length ps → PlainPlaces ps k
    → Splits (first_line (n - k) (drop k ps)) (drop k ps) c t → Splits (first_line n ps) ps (k + c) (k + t)
splits_on zero n c t ps kn kl plain s = rw (zero-add c, zero-add t) (rw sub-zero at s)
splits_on (suc k) zero c t ps kn kl plain s = absurd (omega arith)
splits_on (suc k) (suc n) c t [] kn kl plain s = absurd (omega arith)
splits_on (suc k) (suc n) c t (p ∷ ps) kn kl plain s =
    let f = plain 0 (omega arith) in
    rw (suc-add k c, suc-add k t)
    (one_more n (k + c) (k + t) p ps f.0 f.1
    (splits_on k n c t ps (omega arith) (omega arith) (λ j lt. plain (suc j) (omega arith)) (rw less at s)))
  where
    less : suc n - suc k ≡ n - k
    less = omega arith

at_mark : (n : ℕ) (ps : List Place) → 0 < length ps → (get_or ps 0 nowhere).mark ≡ true → Splits (first_line n ps) ps 0 1
at_mark n [] lt m = absurd (omega arith)
at_mark zero (p ∷ ps) lt m = rw m (record { bytes = refl; left = refl; upto = omega arith; all = omega arith })
at_mark (suc n) (p ∷ ps) lt m = rw m (record { bytes = refl; left = refl; upto = omega arith; all = omega arith })

at_end_lem : (n : ℕ) (ps : List Place) → 0 < n → 0 < length ps → (get_or ps 0 nowhere).mark ≡ false → (get_or ps 0 nowhere).ends ≡ true
    → Splits (first_line n ps) ps 1 1
at_end_lem n [] pos lt m e = absurd (omega arith)
at_end_lem zero (p ∷ ps) pos lt m e = absurd (omega arith)
at_end_lem (suc n) (p ∷ ps) pos lt m e =
    rw (m, e) (record { bytes = refl; left = refl; upto = omega arith; all = omega arith })

at_stop : (n : ℕ) (ps : List Place) → n ≡ 0 → (get_or ps 0 nowhere).mark ≡ false → Splits (first_line n ps) ps 0 0
at_stop n [] z m = record { bytes = refl; left = refl; upto = omega arith; all = omega arith }
at_stop zero (p ∷ ps) z m = rw m (record { bytes = refl; left = refl; upto = omega arith; all = omega arith })
at_stop (suc n) (p ∷ ps) z m = absurd (omega arith)

at_none : (n : ℕ) (ps : List Place) → length ps ≡ 0 → Splits (first_line n ps) ps 0 0
at_none n [] z = record { bytes = refl; left = refl; upto = omega arith; all = omega arith }
at_none n (p ∷ ps) z = absurd (omega arith)

-- every first line is such a part
pub line_splits : (n : ℕ) (ps : List Place) → (c : ℕ) × (t : ℕ) × Splits (first_line n ps) ps c t
line_splits n [] = (0, 0, at_none n [] refl)
line_splits zero (p ∷ ps) = by p.mark refl
  where
    by : (m : Bool) → p.mark ≡ m → (c : ℕ) × (t : ℕ) × Splits (first_line zero (p ∷ ps)) (p ∷ ps) c t
    by true m = (0, 1, at_mark zero (p ∷ ps) (omega arith) m)
    by false m = (0, 0, at_stop zero (p ∷ ps) refl m)
line_splits (suc n) (p ∷ ps) = by (line_splits n ps) p.mark p.ends refl refl
  where
    by : (c : ℕ) × (t : ℕ) × Splits (first_line n ps) ps c t → (m e : Bool) → p.mark ≡ m → p.ends ≡ e
        → (c : ℕ) × (t : ℕ) × Splits (first_line (suc n) (p ∷ ps)) (p ∷ ps) c t
    by r true e em ee = (0, 1, at_mark (suc n) (p ∷ ps) (omega arith) em)
    by r false true em ee = (1, 1, at_end_lem (suc n) (p ∷ ps) (omega arith) (omega arith) em ee)
    by r false false em ee = (suc r.0, suc r.1, one_more n r.0 r.1 p ps em ee r.2)

-- at most the requested bytes
pub line_count : (n : ℕ) (ps : List Place) → length (first_line n ps).bytes ≤ n
line_count n [] = omega arith
line_count zero (p ∷ ps) = by p.mark refl
  where
    by : (m : Bool) → p.mark ≡ m → length (first_line zero (p ∷ ps)).bytes ≤ zero
    by true m = rw m (omega arith)
    by false m = rw m (omega arith)
line_count (suc n) (p ∷ ps) = by (line_count n ps) p.mark p.ends refl refl
  where
    by : length (first_line n ps).bytes ≤ n → (m e : Bool) → p.mark ≡ m → p.ends ≡ e → length (first_line (suc n) (p ∷ ps)).bytes ≤ suc n
    by le true e em ee = rw em (omega arith)
    by le false true em ee = rw (em, ee) (omega arith)
    by le false false em ee = rw (em, ee) (omega arith)

pub bytes_count : (n : ℕ) (ps : List Place) → length (first_bytes n ps).bytes ≤ n
bytes_count n ps = omega (arith, length-map (take n ps) byte_of, length-take n ps)

module _ (i : Input) (ms : List ℕ) (n k : ℕ) (h : Within i (length ms)) (le : k ≤ min n i.ready) (plain : Plain (held i.queue ms) k) where
  module _ (bs : List ℕ) (e : length bs ≡ length ms) where
    within : Within i (length bs)
    within = rw e h

    -- a finished place has its own mark byte
    at_finished : (j : ℕ) → j < i.ready → get_or (get i bs ms).finished j nowhere ≡ place_of (get_or (held i.queue bs) j 0) (get_or (held i.queue ms) j 0)
    unfolding get all
    at_finished j lt =
        let lb : length (held i.queue bs) ≡ min i.queue.len (length bs) = held_length i.queue bs in
        let lm : length (held i.queue ms) ≡ min i.queue.len (length ms) = held_length i.queue ms in
        get_or-take i.ready (places (held i.queue bs) (held i.queue ms)) j nowhere lt
        ∙ places_at (held i.queue bs) (held i.queue ms) j nowhere (omega arith) (omega (arith, h.ready, h.len))

    plain_places : PlainPlaces (get i bs ms).finished k
    plain_places j lt =
        let p = plain j lt in
        let a = at_finished j (omega arith) in (
          ap (λ (x : Place). x.mark) a ∙ p.0,
          ap (λ (x : Place). x.ends) a ∙ p.1,
        )

    here : k < i.ready → get_or (drop k (get i bs ms).finished) 0 nowhere ≡ place_of (get_or (held i.queue bs) k 0) (get_or (held i.queue ms) k 0)
    here lt = get_or-drop k (get i bs ms).finished 0 nowhere ∙ ap (λ (x : ℕ). get_or (get i bs ms).finished x nowhere) (add-zero k) ∙ at_finished k lt

    left_length : length (drop k (get i bs ms).finished) ≡ i.ready - k
    left_length = length-drop k (get i bs ms).finished ∙ ap (λ (x : ℕ). x - k) (finished_length i bs ms e within)

    goes_on : (c t : ℕ) → Splits (first_line (n - k) (drop k (get i bs ms).finished)) (drop k (get i bs ms).finished) c t
        → Splits (first_line n (get i bs ms).finished) (get i bs ms).finished (k + c) (k + t)
    goes_on c t s =
        splits_on k n c t (get i bs ms).finished (omega arith) (omega (arith, finished_length i bs ms e within)) plain_places s

  pub line_at_mark : k < i.ready → marked (held i.queue ms) k ≡ true → TellsLine i ms n (record { count = k; taken = k + 1 })
  line_at_mark lt m bs e = (
    rw add-zero at (goes_on bs e 0 1
        (at_mark (n - k) (drop k (get i bs ms).finished) (omega (arith, left_length bs e)) (ap (λ (x : Place). x.mark) (here bs e lt) ∙ m))),
    omega arith,
  )

  pub line_at_end : k < n → k < i.ready → marked (held i.queue ms) k ≡ false → ending (held i.queue ms) k ≡ true
      → TellsLine i ms n (record { count = k + 1; taken = k + 1 })
  line_at_end kn lt m s bs e = (
    goes_on bs e 1 1
        (at_end_lem (n - k) (drop k (get i bs ms).finished) (omega arith) (omega (arith, left_length bs e)) (ap (λ (x : Place). x.mark) (here bs e lt) ∙ m)
        (ap (λ (x : Place). x.ends) (here bs e lt) ∙ s)),
    omega arith,
  )

  pub line_at_stop : min n i.ready ≤ k → k < i.ready → marked (held i.queue ms) k ≡ false → TellsLine i ms n (record { count = k; taken = k })
  line_at_stop full lt m bs e = (
    rw add-zero at (goes_on bs e 0 0 (at_stop (n - k) (drop k (get i bs ms).finished) (omega arith) (ap (λ (x : Place). x.mark) (here bs e lt) ∙ m))),
    omega arith,
  )

  pub line_at_last : i.ready ≤ k → TellsLine i ms n (record { count = k; taken = k })
  line_at_last last bs e = (
    rw add-zero at (goes_on bs e 0 0 (at_none (n - k) (drop k (get i bs ms).finished) (omega (arith, left_length bs e)))),
    omega arith,
  )
