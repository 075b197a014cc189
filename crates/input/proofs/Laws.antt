-- Laws of stored input, and one lemma for each way out of its functions. Assumes nothing.
use mathlib.Core.Path.{◌≡◌, refl, sym, ap, ◌∙◌}
use mathlib.Core.Logic.{⊎_elim}
use mathlib.Core.Bool.{Bool, true, false, ◌&&◌, and-false}
use mathlib.Core.List.{List, [], ◌∷◌, ◌++◌, map, reverse, append-nil, append_assoc, reverse-cons, reverse-append, reverse-reverse}
use Prim.Native.Nat.{ℕ, zero, suc, ◌+◌, ◌-◌, ◌*◌, ◌/◌, ◌%◌, ◌<◌, ◌≤◌, min}
use native.Mathlib.Nat.{add_assoc, mod-mod}
use native.Mathlib.Omega.{arith}
use lib.ListN.{length, get_or, take, drop, length-append, length-take, length-drop, length-reverse, length-map, take-append-drop, drop_of_length-le}
use lib.Seq.{take_at, drop_at, take-take, take_all}
use lib.Dec.{leb, ltb, eqb}
use borrow.Author.Tests.{le-leb, lt-leb, lt-ltb, le-ltb}
use Rattle.queue.specs.Ring.{ring, stores}
use Rattle.queue.specs.Queue.{held, appended, Holds, fitted as queue_fitted}
use Rattle.queue.specs.declared.Queue.{Queue}
use Rattle.queue.proofs.Rings.{lt_or_le, stores_length, ring_length, ring_mod, take_ring}
use Rattle.queue.proofs.Laws.{stores_append, put_append, held_length, held_fitted, held_laid, holds_room}
use Rattle.rules.specs.Sizes.{Place, Input as Ruled, used}
use Rattle.rules.specs.Settings.{stored}
use Rattle.rules.specs.Fit.{kept_in}
use Rattle.input.specs.Contract.{place_of, bit, mark_of, byte_of, places, all, get, put, added, InputBecomes, Within, Room, Grows, TellsEnd}
use Rattle.input.specs.Contract.{TellsUnit, fitted, shortened, line_to, cut_at, emptied, ended_in}
use Rattle.input.specs.declared.Input.{Input}
use Rattle.rules.proofs.Limits.{stored_length}

---- A place and its mark byte

bit_most : (t : Bool) → bit t ≤ 1
bit_most true = omega arith
bit_most false = omega arith

bit_again : (t : Bool) → eqb (bit t) 1 ≡ t
bit_again true = refl
bit_again false = refl

place_is : (b : ℕ) (s e m n s' e' m' n' : Bool) → s ≡ s' → e ≡ e' → m ≡ m' → n ≡ n'
    → ◌≡◌ {A = Place} (record { byte = b; starts = s; ends = e; mark = m; silent = n }) (record { byte = b; starts = s'; ends = e'; mark = m'; silent = n' })
place_is b s e m n s' e' m' n' es ee em en = cc

pub place_again : (p : Place) → place_of (byte_of p) (mark_of p) ≡ p
place_again p =
    let s : ℕ = bit p.starts in
    let e : ℕ = bit p.ends in
    let m : ℕ = bit p.mark in
    let n : ℕ = bit p.silent in
    let s1 : s ≤ 1 = bit_most p.starts in
    let e1 : e ≤ 1 = bit_most p.ends in
    let m1 : m ≤ 1 = bit_most p.mark in
    let n1 : n ≤ 1 = bit_most p.silent in
    let starts : eqb (mark_of p % 2) 1 ≡ p.starts = ap (λ (x : ℕ). eqb x 1) (first s e m n s1) ∙ bit_again p.starts in
    let ends : eqb (mark_of p / 2 % 2) 1 ≡ p.ends = ap (λ (x : ℕ). eqb x 1) (second s e m n s1 e1) ∙ bit_again p.ends in
    let mark : eqb (mark_of p / 4 % 2) 1 ≡ p.mark = ap (λ (x : ℕ). eqb x 1) (third s e m n s1 e1 m1) ∙ bit_again p.mark in
    let silent : eqb (mark_of p / 8 % 2) 1 ≡ p.silent = ap (λ (x : ℕ). eqb x 1) (fourth s e m n s1 e1 m1 n1) ∙ bit_again p.silent in
    place_is p.byte _ _ _ _ p.starts p.ends p.mark p.silent starts ends mark silent
  where
    first : (s e m n : ℕ) → s ≤ 1 → (s + 2 * e + 4 * m + 8 * n) % 2 ≡ s
    first s e m n s1 = omega arith

    second : (s e m n : ℕ) → s ≤ 1 → e ≤ 1 → (s + 2 * e + 4 * m + 8 * n) / 2 % 2 ≡ e
    second s e m n s1 e1 = omega arith

    third : (s e m n : ℕ) → s ≤ 1 → e ≤ 1 → m ≤ 1 → (s + 2 * e + 4 * m + 8 * n) / 4 % 2 ≡ m
    third s e m n s1 e1 m1 = omega arith

    fourth : (s e m n : ℕ) → s ≤ 1 → e ≤ 1 → m ≤ 1 → n ≤ 1 → (s + 2 * e + 4 * m + 8 * n) / 8 % 2 ≡ n
    fourth s e m n s1 e1 m1 n1 = omega arith

---- Bytes and their marks, place by place

pub places_length : (bs ms : List ℕ) → length bs ≡ length ms → length (places bs ms) ≡ length bs
places_length [] ms e = refl
places_length (b ∷ bs) [] e = absurd (omega arith)
places_length (b ∷ bs) (m ∷ ms) e = ap suc (places_length bs ms (omega arith))

places_append : (cs ns bs ms : List ℕ) → length cs ≡ length ns → places (cs ++ bs) (ns ++ ms) ≡ places cs ns ++ places bs ms
places_append [] [] bs ms e = refl
places_append [] (n ∷ ns) bs ms e = absurd (omega arith)
places_append (c ∷ cs) [] bs ms e = absurd (omega arith)
places_append (c ∷ cs) (n ∷ ns) bs ms e = ap (λ (l : List Place). place_of c n ∷ l) (places_append cs ns bs ms (omega arith))

pub places_of : (u : List Place) → places (map byte_of u) (map mark_of u) ≡ u
places_of [] = refl
places_of (p ∷ ps) =
    let e : place_of (byte_of p) (mark_of p) ≡ p = place_again p in
    let f : places (map byte_of ps) (map mark_of ps) ≡ ps = places_of ps in
    cc

places_take : (k : ℕ) (bs ms : List ℕ) → places (take k bs) (take k ms) ≡ take k (places bs ms)
places_take zero bs ms = refl
places_take (suc k) [] ms = refl
places_take (suc k) (b ∷ bs) [] = refl
places_take (suc k) (b ∷ bs) (m ∷ ms) = ap (λ (l : List Place). place_of b m ∷ l) (places_take k bs ms)

pub places_at : (bs ms : List ℕ) (k : ℕ) (d : Place) → length bs ≡ length ms → k < length bs
    → get_or (places bs ms) k d ≡ place_of (get_or bs k 0) (get_or ms k 0)
places_at [] ms k d e lt = absurd (omega arith)
places_at (b ∷ bs) [] k d e lt = absurd (omega arith)
places_at (b ∷ bs) (m ∷ ms) zero d e lt = refl
places_at (b ∷ bs) (m ∷ ms) (suc k) d e lt = places_at bs ms k d (omega arith) (omega arith)

---- What is held

-- all that is stored, in the rules' words
pub stored_all : (i : Input) (bs ms : List ℕ) → stored (get i bs ms) ≡ all i bs ms
unfolding get
stored_all i bs ms =
    let a : List Place = all i bs ms in
    ap (◌++◌ (take i.ready a)) (reverse-reverse (drop i.ready a)) ∙ take-append-drop i.ready a

pub held_both : (q : Queue) (bs ms : List ℕ) → length bs ≡ length ms → length (held q bs) ≡ length (held q ms)
held_both q bs ms e = held_length q bs ∙ ap (min q.len) e ∙ sym (held_length q ms)

pub all_length : (i : Input) (bs ms : List ℕ) → length bs ≡ length ms → length (all i bs ms) ≡ min i.queue.len (length bs)
unfolding all
all_length i bs ms e =
    places_length (held i.queue bs) (held i.queue ms) (held_both i.queue bs ms e) ∙ held_length i.queue bs

pub literal_same : (i : Input) (bs ms : List ℕ) → (get i bs ms).literal_next ≡ i.literal
unfolding get
literal_same i bs ms = refl

-- places used, in any range
pub used_least : (i : Input) (bs ms : List ℕ) → length bs ≡ length ms → used (get i bs ms) ≡ min i.queue.len (length bs)
used_least i bs ms e = sym (stored_length (get i bs ms)) ∙ ap length (stored_all i bs ms) ∙ all_length i bs ms e

module _ (i : Input) (bs ms : List ℕ) (e : length bs ≡ length ms) (h : Within i (length bs)) where
  pub used_of : used (get i bs ms) ≡ i.queue.len
  used_of = omega (arith, used_least i bs ms e, h.len)

  pub all_long : length (all i bs ms) ≡ i.queue.len
  all_long = omega (arith, all_length i bs ms e, h.len)

  -- the place k, oldest first
  pub all_at : (k : ℕ) (d : Place) → k < i.queue.len
      → get_or (all i bs ms) k d ≡ place_of (get_or (held i.queue bs) k 0) (get_or (held i.queue ms) k 0)
  unfolding all
  all_at k d lt =
      places_at (held i.queue bs) (held i.queue ms) k d (held_both i.queue bs ms e) (omega (arith, held_length i.queue bs, h.len))

  pub finished_length : length (get i bs ms).finished ≡ i.ready
  unfolding get
  finished_length = length-take i.ready (all i bs ms) ∙ lesser
    where
      lesser : min i.ready (length (all i bs ms)) ≡ i.ready
      lesser = omega (arith, all_long, h.ready)

  pub current_length : length (get i bs ms).current ≡ i.queue.len - i.ready
  unfolding get
  current_length =
      length-reverse (drop i.ready (all i bs ms)) ∙ length-drop i.ready (all i bs ms) ∙ ap (λ (n : ℕ). n - i.ready) all_long

input_is : (f c f' c' : List Place) (l l' : Bool) → f ≡ f' → c ≡ c' → l ≡ l'
    → ◌≡◌ {A = Ruled} (record { finished = f; current = c; literal_next = l }) (record { finished = f'; current = c'; literal_next = l' })
input_is f c f' c' l l' ef ec el = cc

-- An input of the rules is what is held, where it is split.
pub get_of : (r : Input) (bs ms : List ℕ) (w : Ruled) → all r bs ms ≡ stored w → r.ready ≡ length w.finished → r.literal ≡ w.literal_next
    → get r bs ms ≡ w
unfolding get
get_of r bs ms w ea er el =
    let f : take r.ready (all r bs ms) ≡ w.finished =
    ap (take r.ready) ea ∙ take_at w.finished (reverse w.current) r.ready (sym er) in
    let c : reverse (drop r.ready (all r bs ms)) ≡ w.current =
    ap (λ (l : List Place). reverse (drop r.ready l)) ea
    ∙ ap reverse (drop_at w.finished (reverse w.current) r.ready (sym er))
    ∙ reverse-reverse w.current in
    input_is _ _ w.finished w.current _ w.literal_next f c el

---- fit

pub fitted_within : (n : ℕ) (i : Input) → Within (fitted n i) n
fitted_within n i = record { head = mod-mod i.queue.head n; len = omega arith; ready = omega arith }

-- the meaning stays
pub fitted_same : (i : Input) (bs ms : List ℕ) → length bs ≡ length ms → get (fitted (length bs) i) bs ms ≡ get i bs ms
unfolding all get
fitted_same i bs ms e =
    let n : ℕ = length bs in
    let w : Ruled = get i bs ms in
    get_of (fitted n i) bs ms w
    (ap (places (held (queue_fitted n i.queue) bs)) (ap (λ (k : ℕ). held (queue_fitted k i.queue) ms) e ∙ held_fitted i.queue ms)
    ∙ ap (λ (l : List ℕ). places l (held i.queue ms)) (held_fitted i.queue bs)
    ∙ sym (stored_all i bs ms))
    (sym (length-take i.ready (all i bs ms) ∙ ap (min i.ready) (all_length i bs ms e)))
    refl

---- What a queue holds after it grew or was cut

held_more : (q r : Queue) (l l' u : List ℕ) (k : ℕ) → r ≡ record { head = q.head % length l; len = k }
    → k ≡ min q.len (length l) + length u → k ≤ length l → l' ≡ stores (length l) l (q.head % length l + min q.len (length l)) u
    → held r l' ≡ held q l ++ u
unfolding held
held_more q r l l' u k er ek le el =
    let N : ℕ = length l in
    let n : ℕ = min q.len N in
    let g : ℕ = q.head % N in
    let c : List ℕ = ring N n q.head l ++ u in
    let all_long : length c ≡ k = length-append (ring N n q.head l) u ∙ ap (λ (x : ℕ). x + length u) (ring_length N n q.head l) ∙ sym ek in
    ap (λ (x : Queue). held x l') er
    ∙ ap (held (record { head = g; len = k })) (el ∙ put_append N n q.head l u)
    ∙ ap (λ (x : ℕ). held (record { head = g; len = x }) (stores N l g c)) (sym all_long)
    ∙ held_laid g l c (omega (arith, all_long))

held_fewer : (q : Queue) (l : List ℕ) (k : ℕ) → k ≤ min q.len (length l)
    → held (record { head = q.head % length l; len = k }) l ≡ take k (held q l)
unfolding held
held_fewer q l k le =
    let m : min k (length l) ≡ k = omega arith in
    ap (λ (x : ℕ). ring (length l) x (q.head % length l) l) m
    ∙ ring_mod (length l) k q.head l
    ∙ sym (take_ring (length l) k (min q.len (length l)) q.head l le)

-- what is left of a list, by its length
take_fewer : (l m : List Place) (k n : ℕ) → m ≡ take k l → length m ≡ n → take n l ≡ m
take_fewer l m k n e en = go l m k n e en
  where
    go : (l m : List Place) (k n : ℕ) → m ≡ take k l → length m ≡ n → take n l ≡ m
    go l m zero n e en = rw (← en, e)
    go [] m (suc k) n e en = rw (← en, e)
    go (p ∷ ps) m (suc k) n e en =
        rw (← en, e)
        (ap (λ (x : List Place). p ∷ x) (go ps (take k ps) k (length (take k ps)) refl refl))

pub numbers_are : (h h' n n' k k' : ℕ) (l l' : Bool) → h ≡ h' → n ≡ n' → k ≡ k' → l ≡ l'
    → ◌≡◌ {A = Input} (record { queue = record { head = h; len = n }; ready = k; literal = l })
    (record { queue = record { head = h'; len = n' }; ready = k'; literal = l' })
numbers_are h h' n n' k k' l l' eh en ek el = cc

---- After a call

-- What is known where a call has left the input w.
pub record After (w : Ruled) (bs ms : List ℕ) (r : Input) (bs' ms' : List ℕ) : Type 0 where
  pub meaning : get r bs' ms' ≡ w
  pub within : Within r (length bs)
  pub bytes : length bs' ≡ length bs
  pub marks : length ms' ≡ length ms

-- no second result fits
pub one_input : {i : Input} {bs ms : List ℕ} {w : Ruled} {r s : Input} {bs' ms' cs ns : List ℕ}
    → InputBecomes i bs ms w r bs' ms' → InputBecomes i bs ms w s cs ns → (r ≡ s) × (bs' ≡ cs) × (ms' ≡ ns)
one_input h k = (h.input ∙ sym k.input, h.bytes ∙ sym k.bytes, h.marks ∙ sym k.marks)

put_within : (w : Ruled) (h n : ℕ) → used w ≤ n → Within (put w (h % n)) n
put_within w h n le = record { head = mod-mod h n; len = le; ready = omega arith }

module _ (i : Input) (bs ms : List ℕ) (w : Ruled) (e : length bs ≡ length ms) where
  same_head : i.queue.head % length bs ≡ i.queue.head % length ms
  same_head = ap (λ (n : ℕ). i.queue.head % n) e

  -- what is new stands behind what was held
  pub get_grown : (u : List Place) (r : Input) (bs' ms' : List ℕ) → stored w ≡ stored (get i bs ms) ++ u → used w ≤ length bs
      → InputBecomes i bs ms w r bs' ms' → After w bs ms r bs' ms'
  unfolding all
  get_grown u r bs' ms' es le b =
      let N : ℕ = length bs in
      let g : Ruled = get i bs ms in
      let n : ℕ = min i.queue.len N in
      let used_g : used g ≡ n = used_least i bs ms e in
      let used_w : used w ≡ n + length u =
      sym (stored_length w) ∙ ap length es ∙ length-append (stored g) u ∙ ap (λ (x : ℕ). x + length u) (stored_length g ∙ used_g) in
      let new : added g w ≡ u = ap (drop (used g)) es ∙ drop_at (stored g) u (used g) (stored_length g) in
      let by : (f : Place → ℕ) → used w ≡ n + length (map f u) = λ f. used_w ∙ ap (◌+◌ n) (sym (length-map u f)) in
      let hb : held r.queue bs' ≡ held i.queue bs ++ map byte_of u =
      held_more i.queue r.queue bs bs' (map byte_of u) (used w) (ap (λ (x : Input). x.queue) b.input) (by byte_of) le
      (b.bytes ∙ ap (λ (k : ℕ). stores N bs (i.queue.head % N + k) (map byte_of (added g w))) used_g
      ∙ ap (λ (l : List Place). stores N bs (i.queue.head % N + n) (map byte_of l)) new) in
      let hm : held r.queue ms' ≡ held i.queue ms ++ map mark_of u =
      held_more i.queue r.queue ms ms' (map mark_of u) (used w)
      (ap (λ (x : Input). x.queue) b.input ∙ ap (λ (x : ℕ). record { head = x; len = used w }) same_head)
      (rw (← e) (by mark_of)) (rw (← e) le)
      (b.marks ∙ ap (λ (k : ℕ). stores (length ms) ms (i.queue.head % length ms + k) (map mark_of (added g w))) (used_g ∙ ap (min i.queue.len) e)
      ∙ ap (λ (l : List Place). stores (length ms) ms (i.queue.head % length ms + min i.queue.len (length ms)) (map mark_of l)) new) in
      record {
        meaning =
            get_of r bs' ms' w
            (ap (λ (l : List ℕ). places l (held r.queue ms')) hb
            ∙ ap (places (held i.queue bs ++ map byte_of u)) hm
            ∙ places_append (held i.queue bs) (held i.queue ms) (map byte_of u) (map mark_of u) (held_both i.queue bs ms e)
            ∙ ap (◌++◌ (all i bs ms)) (places_of u)
            ∙ ap (λ (l : List Place). l ++ u) (sym (stored_all i bs ms))
            ∙ sym es)
            (ap (λ (x : Input). x.ready) b.input) (ap (λ (x : Input). x.literal) b.input);
        within = rw b.input (put_within w i.queue.head N le);
        bytes = ap length b.bytes ∙ simp stores_length;
        marks = ap length b.marks ∙ simp stores_length;
      }

  -- the k oldest places stay
  module _ (k : ℕ) (es : stored w ≡ take k (stored (get i bs ms))) where
    fewer : used w ≡ min k (min i.queue.len (length bs))
    fewer =
        sym (stored_length w)
        ∙ ap length es
        ∙ length-take k (stored (get i bs ms))
        ∙ ap (min k) (stored_length (get i bs ms) ∙ used_least i bs ms e)

    none_new : added (get i bs ms) w ≡ []
    none_new =
        drop_of_length-le (stored w) {i = used (get i bs ms)} (omega (arith, stored_length w, fewer, used_least i bs ms e))

    pub becomes_fewer : InputBecomes i bs ms w (put w (i.queue.head % length bs)) bs ms
    becomes_fewer =
        record {
          input = refl;
          bytes = sym (ap (λ (l : List Place). stores (length bs) bs (i.queue.head % length bs + used (get i bs ms)) (map byte_of l)) none_new);
          marks = sym (ap (λ (l : List Place). stores (length ms) ms (i.queue.head % length ms + used (get i bs ms)) (map mark_of l)) none_new);
        }

    pub get_fewer : (r : Input) (bs' ms' : List ℕ) → InputBecomes i bs ms w r bs' ms' → After w bs ms r bs' ms'
    unfolding all
    get_fewer r bs' ms' b =
        let N : ℕ = length bs in
        let same : (r ≡ put w (i.queue.head % N)) × (bs' ≡ bs) × (ms' ≡ ms) = one_input b becomes_fewer in
        let hb : held r.queue bs ≡ take (used w) (held i.queue bs) =
        ap (λ (x : Input). held x.queue bs) same.0 ∙ held_fewer i.queue bs (used w) (omega (arith, fewer)) in
        let hm : held r.queue ms ≡ take (used w) (held i.queue ms) =
        ap (λ (x : Input). held x.queue ms) same.0
        ∙ ap (λ (x : ℕ). held (record { head = x; len = used w }) ms) same_head
        ∙ held_fewer i.queue ms (used w) (omega (arith, fewer, e)) in
        let cut : take (used w) (all i bs ms) ≡ stored w =
        ap (take (used w)) (sym (stored_all i bs ms)) ∙ take_fewer (stored (get i bs ms)) (stored w) k (used w) es (stored_length w) in
        record {
          meaning =
              get_of r bs' ms' w
              (ap (λ (l : List ℕ). all r l ms') same.1
              ∙ ap (all r bs) same.2
              ∙ ap (λ (l : List ℕ). places l (held r.queue ms)) hb
              ∙ ap (places (take (used w) (held i.queue bs))) hm
              ∙ places_take (used w) (held i.queue bs) (held i.queue ms)
              ∙ cut)
              (ap (λ (x : Input). x.ready) b.input) (ap (λ (x : Input). x.literal) b.input);
          within = rw b.input (put_within w i.queue.head N (omega (arith, fewer)));
          bytes = ap length same.1;
          marks = ap length same.2;
        }

---- A unit, and the end of a line, behind all that is stored

pub kept_stored : (canonical : Bool) (w : Ruled) (u : List Place) → stored (kept_in canonical w u) ≡ stored w ++ u
kept_stored true w u =
    ap (◌++◌ w.finished) (reverse-append (reverse u) w.current ∙ ap (◌++◌ (reverse w.current)) (reverse-reverse u))
    ∙ sym (append_assoc w.finished (reverse w.current) u)
kept_stored false w u = append-nil (stored w ++ u)

pub ended_stored : (w : Ruled) (p : Place) → stored (ended_in w p) ≡ stored w ++ (p ∷ [])
ended_stored w p =
    append-nil (w.finished ++ reverse (p ∷ w.current))
    ∙ ap (◌++◌ w.finished) (reverse-cons p w.current)
    ∙ sym (append_assoc w.finished (reverse w.current) (p ∷ []))

more_used : (v w : Ruled) (u : List Place) → stored w ≡ stored v ++ u → used w ≡ used v + length u
more_used v w u e =
    sym (stored_length w) ∙ ap length e ∙ length-append (stored v) u ∙ ap (λ (n : ℕ). n + length u) (stored_length v)

pub kept_used : (canonical : Bool) (w : Ruled) (u : List Place) → used (kept_in canonical w u) ≡ used w + length u
kept_used canonical w u = more_used w (kept_in canonical w u) u (kept_stored canonical w u)

pub ended_used : (w : Ruled) (p : Place) → used (ended_in w p) ≡ used w + 1
ended_used w p = more_used w (ended_in w p) (p ∷ []) (ended_stored w p)

---- add, add_unit

-- one byte more in one of the slices
pushed : (q r : Queue) (l l' : List ℕ) (b : ℕ) → q.head % length l ≡ q.head → q.len + 1 ≤ length l
    → Holds q l (appended (length l) (held q l) (b ∷ [])) r l'
    → (r ≡ record { head = q.head; len = q.len + 1 }) × (l' ≡ stores (length l) l (q.head + q.len) (b ∷ []))
unfolding held
pushed q r l l' b eh le h =
    let N : ℕ = length l in
    let m : min q.len N ≡ q.len = omega arith in
    let k : Holds q l (held q l ++ (b ∷ [])) r l' = holds_room q r l l' (b ∷ []) (omega arith) h in
    let n : length (held q l ++ (b ∷ [])) ≡ q.len + 1 =
    length-append (held q l) (b ∷ []) ∙ ap (λ (x : ℕ). x + 1) (held_length q l ∙ m) in (
      k.queue ∙ queue_is _ q.head _ (q.len + 1) eh n,
      k.ring
          ∙ sym (put_append N (min q.len N) q.head l (b ∷ []))
          ∙ ap (λ (x : ℕ). stores N l (x + min q.len N) (b ∷ [])) eh
          ∙ ap (λ (x : ℕ). stores N l (q.head + x) (b ∷ [])) m,
    )
  where
    queue_is : (h h' n n' : ℕ) → h ≡ h' → n ≡ n' → ◌≡◌ {A = Queue} (record { head = h; len = n }) (record { head = h'; len = n' })
    queue_is h h' n n' eh en = cc

pub added_one : (i : Input) (q p : Queue) (bs ms bs' ms' : List ℕ) (b m : ℕ) → Room i bs ms 1
    → Holds i.queue bs (appended (length bs) (held i.queue bs) (b ∷ [])) q bs'
    → Holds i.queue ms (appended (length ms) (held i.queue ms) (m ∷ [])) p ms'
    → Grows i bs ms (b ∷ []) (m ∷ []) (record { queue = q; ready = i.ready; literal = i.literal }) bs' ms'
added_one i q p bs ms bs' ms' b m room hb hm =
    let pb = pushed i.queue q bs bs' b room.within.head room.room hb in
    let pm = pushed i.queue p ms ms' m (rw (← room.same) room.within.head) (rw (← room.same) room.room) hm in
    record { input = ap (λ (x : Queue). record { queue = x; ready = i.ready; literal = i.literal }) pb.0; bytes = pb.1; marks = pm.1 }

-- two runs of stores, one behind the other
twice : (l l' l'' b c : List ℕ) (h k n : ℕ) → length b ≡ n → l' ≡ stores (length l) l (h + k) b
    → l'' ≡ stores (length l') l' (h + (k + n)) c → l'' ≡ stores (length l) l (h + k) (b ++ c)
twice l l' l'' b c h k n en e f =
    let N : ℕ = length l in
    f
    ∙ ap (λ (x : ℕ). stores x l' (h + (k + n)) c) (ap length e ∙ simp stores_length)
    ∙ ap (λ (x : List ℕ). stores N x (h + (k + n)) c) e
    ∙ ap (λ (x : ℕ). stores N (stores N l (h + k) b) x c) (ap (λ (x : ℕ). h + (k + x)) (sym en) ∙ sym (add_assoc h k (length b)))
    ∙ sym (stores_append N (h + k) l b c)

module _ (i r : Input) (bs ms bs' ms' b m : List ℕ) (g : Grows i bs ms b m r bs' ms') where
  -- a and then b is both
  pub grown_twice : (s : Input) (bs'' ms'' c n : List ℕ) → length b ≡ length m → Grows r bs' ms' c n s bs'' ms'' → Grows i bs ms (b ++ c) (m ++ n) s bs'' ms''
  grown_twice s bs'' ms'' c n e f =
      let h : ℕ = i.queue.head in
      let k : ℕ = i.queue.len in
      let n' : k + length b + length c ≡ k + length (b ++ c) = add_assoc k (length b) (length c) ∙ ap (◌+◌ k) (sym (length-append b c)) in
      record {
        input =
            f.input
            ∙ ap (λ (x : Input). record { queue = record { head = x.queue.head; len = x.queue.len + length c }; ready = x.ready; literal = x.literal })
            g.input
            ∙ ap (λ (x : ℕ). record { queue = record { head = h; len = x }; ready = i.ready; literal = i.literal }) n';
        bytes =
            twice bs bs' bs'' b c h k (length b) refl g.bytes
            (f.bytes ∙ ap (λ (x : Input). stores (length bs') bs' (x.queue.head + x.queue.len) c) g.input);
        marks =
            twice ms ms' ms'' m n h k (length b) (sym e) g.marks
            (f.marks ∙ ap (λ (x : Input). stores (length ms') ms' (x.queue.head + x.queue.len) n) g.input);
      }

---- store, end, end_of_file

-- A run of places behind what was held is the input w, where w has just these places more and its own finished part.
module _ (i r : Input) (bs ms bs' ms' : List ℕ) (u : List Place) (e : length bs ≡ length ms) (h : Within i (length bs))
    (g : Grows i bs ms (map byte_of u) (map mark_of u) r bs' ms') where
  becomes_more : (w : Ruled) → stored w ≡ stored (get i bs ms) ++ u → w.literal_next ≡ i.literal
      → InputBecomes i bs ms w (record { queue = r.queue; ready = length w.finished; literal = r.literal }) bs' ms'
  becomes_more w es el =
      let v : Ruled = get i bs ms in
      let used_v : used v ≡ i.queue.len = used_of i bs ms e h in
      let used_w : i.queue.len + length (map byte_of u) ≡ used w =
      ap (◌+◌ i.queue.len) (length-map u byte_of) ∙ ap (λ (x : ℕ). x + length u) (sym used_v) ∙ sym (more_used v w u es) in
      let new : added v w ≡ u = ap (drop (used v)) es ∙ drop_at (stored v) u (used v) (stored_length v) in
      record {
        input =
            ap (λ (x : Input). record { queue = x.queue; ready = length w.finished; literal = x.literal }) g.input
            ∙ numbers_are i.queue.head _ _ _ (length w.finished) _ _ w.literal_next (sym h.head) used_w refl (sym el);
        bytes = g.bytes ∙ laid_new bs byte_of h.head w used_v new;
        marks = g.marks ∙ laid_new ms mark_of (rw (← e) h.head) w used_v new;
      }
    where
      laid_new : (l : List ℕ) (f : Place → ℕ) → i.queue.head % length l ≡ i.queue.head → (w : Ruled) → used (get i bs ms) ≡ i.queue.len
          → added (get i bs ms) w ≡ u
          → stores (length l) l (i.queue.head + i.queue.len) (map f u)
          ≡ stores (length l) l (i.queue.head % length l + used (get i bs ms)) (map f (added (get i bs ms) w))
      laid_new l f eh w eu en =
          ap (λ (x : ℕ). stores (length l) l (x + i.queue.len) (map f u)) (sym eh)
          ∙ ap (λ (x : ℕ). stores (length l) l (i.queue.head % length l + x) (map f u)) (sym eu)
          ∙ ap (λ (x : List Place). stores (length l) l (i.queue.head % length l + used (get i bs ms)) (map f x)) (sym en)

  pub stores_current : (canonical : Bool) → canonical ≡ true → InputBecomes i bs ms (kept_in canonical (get i bs ms) u) r bs' ms'
  stores_current canonical et =
      let b = becomes_more (kept_in true (get i bs ms) u) (kept_stored true (get i bs ms) u) (literal_same i bs ms) in
      let k : r.ready ≡ length (get i bs ms).finished = ap (λ (x : Input). x.ready) g.input ∙ sym (finished_length i bs ms e h) in
      rw et
      (record {
        input = ap (λ (x : ℕ). record { queue = r.queue; ready = x; literal = r.literal }) k ∙ b.input;
        bytes = b.bytes;
        marks = b.marks;
      })

  -- all places are finished
  finishes : (s : Input) (w : Ruled) → stored w ≡ stored (get i bs ms) ++ u → w.literal_next ≡ i.literal → length w.current ≡ 0
      → s ≡ record { queue = r.queue; ready = r.queue.len; literal = r.literal } → InputBecomes i bs ms w s bs' ms'
  finishes s w es el ec er =
      let b = becomes_more w es el in
      let k : r.queue.len ≡ length w.finished = ap (λ (x : Input). x.queue.len) b.input ∙ omega (arith, ec) in
      record {
        input = er ∙ ap (λ (x : ℕ). record { queue = r.queue; ready = x; literal = r.literal }) k ∙ b.input;
        bytes = b.bytes;
        marks = b.marks;
      }

  pub stores_finished : (canonical : Bool) (s : Input) → canonical ≡ false → s ≡ record { queue = r.queue; ready = r.queue.len; literal = r.literal }
      → InputBecomes i bs ms (kept_in canonical (get i bs ms) u) s bs' ms'
  stores_finished canonical s ef er =
      rw ef (finishes s (kept_in false (get i bs ms) u) (kept_stored false (get i bs ms) u) (literal_same i bs ms) refl er)

pub ends_line : (i r s : Input) (bs ms bs' ms' : List ℕ) (p : Place) → Room i bs ms 1
    → Grows i bs ms (byte_of p ∷ []) (mark_of p ∷ []) r bs' ms'
    → s ≡ record { queue = r.queue; ready = r.queue.len; literal = r.literal }
    → InputBecomes i bs ms (ended_in (get i bs ms) p) s bs' ms'
ends_line i r s bs ms bs' ms' p room g er =
    finishes i r bs ms bs' ms' (p ∷ []) room.same room.within g s (ended_in (get i bs ms) p) (ended_stored (get i bs ms) p)
    (literal_same i bs ms) refl er

---- end_fits, unit_fits

module _ (i : Input) (n : ℕ) (h : Within i n) where
  numbers : (bs ms : List ℕ) → length bs ≡ n → length ms ≡ n
      → (used (get i bs ms) ≡ i.queue.len) × (length (get i bs ms).current ≡ i.queue.len - i.ready)
  numbers bs ms eb em =
      let e : length bs ≡ length ms = eb ∙ sym em in
      (used_of i bs ms e (rw eb h), current_length i bs ms e (rw eb h))

  pub end_fits_of : (r : Bool) → r ≡ ltb i.queue.len n → TellsEnd i n r
  end_fits_of r e line output bs ms eb em = e ∙ ap (λ (k : ℕ). ltb k n) (sym (numbers bs ms eb em).0)

  module _ (line u : ℕ) (canonical : Bool) (r : Bool) where
    pub unit_fits_line : canonical ≡ true → r ≡ (leb (i.queue.len - i.ready + u) line && ltb (i.queue.len + u) n) → TellsUnit i n line canonical u r
    unit_fits_line et er output bs ms eb em =
        let k = numbers bs ms eb em in
        rw et
        (er
        ∙ ap (λ (x : ℕ). leb (x + u) line && ltb (i.queue.len + u) n) (sym k.1)
        ∙ ap (λ (x : ℕ). leb (length (get i bs ms).current + u) line && ltb (x + u) n) (sym k.0))

    pub unit_fits_raw : canonical ≡ false → r ≡ leb (i.queue.len + u) n → TellsUnit i n line canonical u r
    unit_fits_raw ef er output bs ms eb em =
        rw ef (er ∙ ap (λ (x : ℕ). leb (x + u) n) (sym (numbers bs ms eb em).0))

-- the tests of the code are those of the rules
pub no_line : (a u line : ℕ) (t : Bool) → line < a + u → false ≡ (leb (a + u) line && t)
no_line a u line t lt = rw (lt-leb (a + u) line lt)

pub no_room : (a u line k n : ℕ) → n < u → false ≡ (leb (a + u) line && ltb (k + u) n)
no_room a u line k n lt = rw (le-ltb (k + u) n (omega arith)) (sym (and-false (leb (a + u) line)))

less_both : (k u n : ℕ) → u ≤ n → ltb k (n - u) ≡ ltb (k + u) n
less_both k u n le =
    ⊎_elim
    (λ (w : k + u < n). lt-ltb k (n - u) (omega arith) ∙ sym (lt-ltb (k + u) n w))
    (λ (w : n ≤ k + u). le-ltb k (n - u) (omega arith) ∙ sym (le-ltb (k + u) n w))
    (lt_or_le (k + u) n)

pub room_left : (a u line k n : ℕ) → a ≤ line - u → u ≤ line → u ≤ n → ltb k (n - u) ≡ (leb (a + u) line && ltb (k + u) n)
room_left a u line k n la lu le = rw (le-leb (a + u) line (omega arith)) (less_both k u n le)

pub places_left : (k u n : ℕ) → u ≤ n → leb k (n - u) ≡ leb (k + u) n
places_left k u n le =
    ⊎_elim
    (λ (w : n < k + u). lt-leb k (n - u) (omega arith) ∙ sym (lt-leb (k + u) n w))
    (λ (w : k + u ≤ n). le-leb k (n - u) (omega arith) ∙ sym (le-leb (k + u) n w))
    (lt_or_le n (k + u))

---- cut, flush

module _ (i : Input) (bs ms : List ℕ) (e : length bs ≡ length ms) where
  pub flush_becomes : InputBecomes i bs ms emptied (put emptied (i.queue.head % length bs)) bs ms
  flush_becomes = becomes_fewer i bs ms emptied e 0 refl

  -- the whole current line
  pub line_whole : Within i (length bs) → line_to i bs ms i.queue.len ≡ (get i bs ms).current
  unfolding get
  line_whole h =
      ap (λ (l : List Place). reverse (drop i.ready l)) (take_all i.queue.len (all i bs ms) (omega (arith, all_long i bs ms e h)))

  -- what stays after a cut: the finished lines and the places before it
  pub cut_stored : (at : ℕ) → i.ready ≤ at → stored (cut_at i bs ms at) ≡ take at (stored (get i bs ms))
  unfolding get
  cut_stored at le =
      let a : List Place = all i bs ms in
      ap (◌++◌ (take i.ready a)) (reverse-reverse (drop i.ready (take at a)))
      ∙ ap (λ (l : List Place). l ++ drop i.ready (take at a)) (sym (take-take i.ready at a le))
      ∙ take-append-drop i.ready (take at a)
      ∙ ap (take at) (sym (stored_all i bs ms))

  pub cut_becomes : (at : ℕ) → Within i (length bs) → i.ready ≤ at → InputBecomes i bs ms (cut_at i bs ms at) (shortened at i) bs ms
  cut_becomes at h le =
      let w : Ruled = cut_at i bs ms at in
      let b = becomes_fewer i bs ms w e at (cut_stored at le) in
      let k : min i.queue.len at ≡ used w = omega (arith, h.len, fewer i bs ms w e at (cut_stored at le)) in
      record {
        input =
            numbers_are i.queue.head (i.queue.head % length bs) (min i.queue.len at) (used w) i.ready (length w.finished) i.literal
            i.literal
            (sym h.head) k (sym (finished_length i bs ms e h)) refl;
        bytes = b.bytes;
        marks = b.marks;
      }
