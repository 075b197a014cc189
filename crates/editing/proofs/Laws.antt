-- Laws of the units of the current line, and one lemma for each way out of the functions. Assumes nothing.
use mathlib.Core.Path.{◌≡◌, refl, sym, ap, ◌∙◌}
use mathlib.Core.Logic.{◌⊎◌, ⊎_elim}
use mathlib.Core.Bool.{Bool, true, false, cond}
use mathlib.Core.List.{List, [], ◌∷◌, ◌++◌, reverse, reverse-append}
use Prim.Native.Nat.{ℕ, zero, suc, ◌+◌, ◌-◌, ◌%◌, ◌<◌, ◌≤◌, min}
use native.Mathlib.Nat.{add-zero, add-suc}
use native.Mathlib.Omega.{arith}
use lib.ListN.{length, get_or, take, drop, length-reverse, length-take, length-drop, drop_of_length-le}
use lib.Seq.{take-suc, drop-append-le, drop-drop}
use lib.Dec.{eqb}
use Rattle.queue.specs.Queue.{held}
use Rattle.rules.specs.Sizes.{Place}
use Rattle.rules.specs.Editing.{joined, units, places_of, without_units, trailing, Edit, removed, edited}
use Rattle.rules.specs.declared.Settings.{Settings}
use Rattle.input.specs.Contract.{all, get, line_to, shortened, Within, Sound, InputBecomes}
use Rattle.input.specs.declared.Input.{Input}
use Rattle.input.proofs.Laws.{line_whole, cut_becomes, all_long, all_at}
use Rattle.editing.specs.Contract.{place_at, places_in, units_to, Line, Starts, Cuts, Removes}
use Rattle.editing.specs.declared.Run.{Run}

---- Units and places

places_joined : (p : Place) (us : List (List Place)) → places_of (joined p us) ≡ p ∷ places_of us
places_joined p [] = refl
places_joined p (u ∷ us) = ap (λ (l : List Place). l ++ places_of us) (reverse-append u (p ∷ []))

pub places_units : (l : List Place) → places_of (units l) ≡ l
places_units [] = refl
places_units (p ∷ ps) = go p.starts (ap (λ (l : List Place). p ∷ l) (places_units ps))
  where
    go : (t : Bool) → p ∷ places_of (units ps) ≡ p ∷ ps → places_of (cond t ((p ∷ []) ∷ units ps) (joined p (units ps))) ≡ p ∷ ps
    go true e = e
    go false e = places_joined p (units ps) ∙ e

---- One place more

module _ (i : Input) (bs ms : List ℕ) (e : length bs ≡ length ms) (h : Within i (length ms)) where
  within : Within i (length bs)
  within = rw e h

  long : length (all i bs ms) ≡ i.queue.len
  long = all_long i bs ms e within

  -- from place `at` on
  pub places_next : (at k : ℕ) → at ≤ k → k < i.queue.len → places_in i bs ms at (suc k) ≡ places_in i bs ms at k ++ (place_at i bs ms k ∷ [])
  places_next at k le lt =
      let a : List Place = all i bs ms in
      let p : Place = place_at i bs ms k in
      ap (drop at) (take-suc a k p (omega (arith, long)) ∙ ap (λ (x : Place). take k a ++ (x ∷ [])) (all_at i bs ms e within k p lt))
      ∙ drop-append-le at (take k a) (p ∷ []) (omega (arith, length-take k a, long))

  pub line_next : (k : ℕ) → i.ready ≤ k → k < i.queue.len → line_to i bs ms (suc k) ≡ place_at i bs ms k ∷ line_to i bs ms k
  line_next k le lt =
      ap reverse (places_next i.ready k le lt) ∙ reverse-append (places_in i bs ms i.ready k) (place_at i bs ms k ∷ [])

  places_none : (k : ℕ) → places_in i bs ms k k ≡ []
  places_none k = drop_of_length-le (take k (all i bs ms)) {i = k} (omega (arith, length-take k (all i bs ms)))

  pub line_none : (k : ℕ) → k ≤ i.ready → line_to i bs ms k ≡ []
  line_none k le =
      ap reverse (drop_of_length-le (take k (all i bs ms)) {i = i.ready} (omega (arith, length-take k (all i bs ms))))

  line_long : (k : ℕ) → k ≤ i.queue.len → length (line_to i bs ms k) ≡ k - i.ready
  line_long k le =
      length-reverse (drop i.ready (take k (all i bs ms)))
      ∙ length-drop i.ready (take k (all i bs ms))
      ∙ ap (λ (n : ℕ). n - i.ready) (length-take k (all i bs ms) ∙ least)
    where
      least : min k (length (all i bs ms)) ≡ k
      least = omega (arith, long)

  -- before the line nothing is to be shown, and all of it before `len`
  pub units_none : (k : ℕ) → k ≤ i.ready → units_to i bs ms k ≡ []
  units_none k le = ap units (line_none k le)

  pub place_one : (k : ℕ) → k < i.queue.len → places_in i bs ms k (suc k) ≡ place_at i bs ms k ∷ []
  place_one k lt = places_next k k (omega arith) lt ∙ ap (λ (l : List Place). l ++ (place_at i bs ms k ∷ [])) (places_none k)

  ---- The last unit

  -- a place that begins a unit, or the line
  unit_first : (k : ℕ) → i.ready ≤ k → k < i.queue.len → ((place_at i bs ms k).starts ≡ true) ⊎ (k ≡ i.ready)
      → units_to i bs ms (suc k) ≡ (place_at i bs ms k ∷ []) ∷ units_to i bs ms k
  unit_first k le lt begins =
      let p : Place = place_at i bs ms k in
      let us : List (List Place) = units_to i bs ms k in
      ap units (line_next k le lt)
      ∙ ⊎_elim
      (λ (w : p.starts ≡ true). ap (λ (t : Bool). cond t ((p ∷ []) ∷ us) (joined p us)) w)
      (λ (w : k ≡ i.ready).
      let z : us ≡ [] = units_none k (omega arith) in
      ap (λ (l : List (List Place)). cond p.starts ((p ∷ []) ∷ l) (joined p l)) z
      ∙ both p.starts ((p ∷ []) ∷ [])
      ∙ ap (λ (l : List (List Place)). (p ∷ []) ∷ l) (sym z))
      begins
    where
      both : (t : Bool) (l : List (List Place)) → cond t l l ≡ l
      both true l = refl
      both false l = refl

  -- a further place of it
  unit_further : (k : ℕ) (u : List Place) (us : List (List Place)) → i.ready ≤ k → k < i.queue.len → (place_at i bs ms k).starts ≡ false
      → units_to i bs ms k ≡ u ∷ us → units_to i bs ms (suc k) ≡ (u ++ (place_at i bs ms k ∷ [])) ∷ us
  unit_further k u us le lt further eu =
      let p : Place = place_at i bs ms k in
      ap units (line_next k le lt)
      ∙ ap (λ (t : Bool). cond t ((p ∷ []) ∷ units_to i bs ms k) (joined p (units_to i bs ms k))) further
      ∙ ap (joined p) eu

  unit_run : (n at : ℕ) → i.ready ≤ at → suc (at + n) ≤ i.queue.len → ((place_at i bs ms at).starts ≡ true) ⊎ (at ≡ i.ready)
      → ((k : ℕ) → at < k → k < suc (at + n) → (place_at i bs ms k).starts ≡ false)
      → units_to i bs ms (suc (at + n)) ≡ places_in i bs ms at (suc (at + n)) ∷ units_to i bs ms at
  unit_run zero at le lt begins none =
      rw add-zero
      (unit_first at le (omega arith) begins ∙ ap (λ (l : List Place). l ∷ units_to i bs ms at) (sym (place_one at (omega arith))))
  unit_run (suc n) at le lt begins none =
      rw add-suc
      (unit_further (suc (at + n)) (places_in i bs ms at (suc (at + n))) (units_to i bs ms at) (omega arith) (omega arith)
      (none (suc (at + n)) (omega arith) (omega arith))
      (unit_run n at le (omega arith) begins (λ k lo hi. none k lo (omega arith)))
      ∙ ap (λ (l : List Place). l ∷ units_to i bs ms at) (sym (places_next at (suc (at + n)) (omega arith) (omega arith))))

---- unit_start

-- the walk back from `end` to `last`, at `at`: no place from there on begins a unit
pub record Seeking (i : Input) (ms : List ℕ) (end last at : ℕ) : Type 0 where
  pub low : last ≤ at
  pub high : at ≤ end
  pub none : (k : ℕ) → at ≤ k → k < end → eqb (get_or (held i.queue ms) k 0 % 2) 1 ≡ false

pub seek_end : (i : Input) (ms : List ℕ) (end last at now : ℕ) → Line i ms end → Seeking i ms end last now → i.ready ≤ at → at < end → now ≤ at + 1
    → (eqb (get_or (held i.queue ms) at 0 % 2) 1 ≡ true) ⊎ (at ≡ i.ready) → Starts i ms end at
seek_end i ms end last at now l s low high le begins =
    let n : ℕ = end - suc at in
    let long : suc (at + n) ≡ end = omega arith in
    record {
      low = low;
      high = high;
      unit = λ bs e. rw long at (unit_run i bs ms e l.within n at low (omega (arith, l.high)) begins (λ k lo hi. s.none k (omega arith) (omega arith)));
    }

---- The walks back

-- The walk back from `end`, at `at` after n units, all of which passed.
pub record Walked (i : Input) (bs ms : List ℕ) (end : ℕ) (test : List Place → Bool) (at n : ℕ) : Type 0 where
  pub low : i.ready ≤ at
  pub fewer : n + at ≤ end
  pub count : trailing test (units_to i bs ms end) ≡ n + trailing test (units_to i bs ms at)
  pub rest : units_to i bs ms at ≡ drop n (units_to i bs ms end)

module _ (i : Input) (bs ms : List ℕ) (end : ℕ) (test : List Place → Bool) (e : length bs ≡ length ms) where
  module _ (at n : ℕ) (w : Walked i bs ms end test at n) where
    pub walk_next : (start : ℕ) → Starts i ms at start → test (places_in i bs ms start at) ≡ true → Walked i bs ms end test start (n + 1)
    walk_next start s passes =
        let u : List Place = places_in i bs ms start at in
        let us : List (List Place) = units_to i bs ms start in
        let step : units_to i bs ms at ≡ u ∷ us = s.unit bs e in
        let more : trailing test (units_to i bs ms at) ≡ suc (trailing test us) =
        ap (trailing test) step ∙ ap (λ (t : Bool). cond t (suc (trailing test us)) 0) passes in
        record {
          low = s.low;
          fewer = omega (arith, w.fewer, s.high);
          count = omega (arith, w.count);
          rest =
              sym
              (sym (drop-drop 1 n (units_to i bs ms end))
              ∙ ap (drop 1) (sym w.rest ∙ step));
        }

    walk_done : trailing test (units_to i bs ms at) ≡ 0 → Cuts i bs ms end (trailing test (units_to i bs ms end)) (record { at = at; units = n })
    walk_done z =
        let k : n ≡ trailing test (units_to i bs ms end) = omega (arith, w.count) in
        record { low = w.low; fewer = w.fewer; count = k; rest = w.rest ∙ ap (λ (x : ℕ). drop x (units_to i bs ms end)) k }

    pub walk_end : Within i (length ms) → at ≤ i.ready → Cuts i bs ms end (trailing test (units_to i bs ms end)) (record { at = at; units = n })
    walk_end h le = walk_done (ap (trailing test) (units_none i bs ms e h at le))

pub within_marks : (i : Input) (bs ms : List ℕ) → Sound i bs ms → Within i (length ms)
within_marks i bs ms h = rw (← h.same) h.within

---- last_unit, whole_line

-- the whole current line, as the rules count its units
pub removes_of : (i : Input) (bs ms : List ℕ) (f : List (List Place) → ℕ) (r : Run) → length bs ≡ length ms → Within i (length ms)
    → Cuts i bs ms i.queue.len (f (units_to i bs ms i.queue.len)) r → Removes i bs ms (f (units (get i bs ms).current)) r
removes_of i bs ms f r e h c =
    let whole : line_to i bs ms i.queue.len ≡ (get i bs ms).current = line_whole i bs ms e (rw e h) in
    let n : ℕ = f (units_to i bs ms i.queue.len) in
    let cut : line_to i bs ms r.at ≡ without_units n (line_to i bs ms i.queue.len) =
    sym (places_units (line_to i bs ms r.at)) ∙ ap places_of c.rest in
    record {
      low = c.low;
      high = omega (arith, c.fewer);
      count = c.count ∙ ap (λ (l : List Place). f (units l)) whole;
      line = cut ∙ ap (λ (l : List Place). without_units (f (units l)) l) whole;
    }

all_trail : (us : List (List Place)) → trailing (λ u. true) us ≡ length us
all_trail [] = refl
all_trail (u ∷ us) = ap suc (all_trail us)

pub whole_of : (i : Input) (ms : List ℕ) (at n : ℕ) → Within i (length ms) → at ≤ i.ready
    → ((bs : List ℕ) → length bs ≡ length ms → Walked i bs ms i.queue.len (λ u. true) at n)
    → (bs : List ℕ) → length bs ≡ length ms → Removes i bs ms (length (units (get i bs ms).current)) (record { at = at; units = n })
whole_of i ms at n h le w bs e =
    rw all_trail at
    (removes_of i bs ms (trailing (λ u. true)) (record { at = at; units = n }) e h (walk_end i bs ms i.queue.len (λ u. true) e at n (w bs e) h le))

-- no second run fits
pub one_run : (i : Input) (bs ms : List ℕ) (n : ℕ) (r s : Run) → length bs ≡ length ms → Within i (length ms)
    → Removes i bs ms n r → Removes i bs ms n s → r ≡ s
one_run i bs ms n r s e h a b =
    let long : length (line_to i bs ms r.at) ≡ length (line_to i bs ms s.at) = ap length (a.line ∙ sym b.line) in
    let at : r.at ≡ s.at =
    omega (arith, long, line_long i bs ms e h r.at a.high, line_long i bs ms e h s.at b.high, a.low, b.low) in
    run_is r.at s.at r.units s.units at (a.count ∙ sym b.count)
  where
    run_is : (a a' n n' : ℕ) → a ≡ a' → n ≡ n' → ◌≡◌ {A = Run} (record { at = a; units = n }) (record { at = a'; units = n' })
    run_is a a' n n' ea en = cc

pub units_whole : (i : Input) (bs ms : List ℕ) → length bs ≡ length ms → Within i (length ms) → units_to i bs ms i.queue.len ≡ units (get i bs ms).current
units_whole i bs ms e h = ap units (line_whole i bs ms e (rw e h))

-- The line cut there is the line edited: for x and the edit of that many units.
module _ (i : Input) (bs ms : List ℕ) (x : Settings) (edit : Edit) (r : Run) (e : length bs ≡ length ms) (h : Within i (length ms))
    (a : Removes i bs ms (removed x edit (units (get i bs ms).current)) r) where
  pub edited_becomes : InputBecomes i bs ms (edited x edit (get i bs ms)) (shortened r.at i) bs ms
  unfolding get
  edited_becomes = rw (← a.line) (cut_becomes i bs ms e r.at (rw e h) a.low)
