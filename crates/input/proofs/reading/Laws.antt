-- Laws of what a read takes, and one lemma for each way out of the functions. Assumes nothing.
use mathlib.Core.Path.{◌≡◌, refl, sym, ap, ◌∙◌}
use mathlib.Core.Logic.{⊎_elim}
use mathlib.Core.List.{List, [], ◌∷◌, ◌++◌, reverse, append-nil}
use Prim.Native.Nat.{ℕ, zero, suc, ◌+◌, ◌-◌, ◌%◌, ◌<◌, ◌≤◌, min}
use native.Mathlib.Nat.{mod-mod}
use native.Mathlib.Omega.{arith}
use lib.ListN.{length, take, drop, length-drop, drop_of_length-le}
use lib.Seq.{take_all, length-take-le, take-take, drop-append-le}
use Rattle.queue.specs.Ring.{ring}
use Rattle.queue.specs.Queue.{held, Takes}
use Rattle.queue.specs.declared.Queue.{Queue}
use Rattle.queue.specs.declared.Counted.{Counted}
use Rattle.queue.proofs.Rings.{lt_or_le, ring_mod, drop_ring}
use Rattle.queue.proofs.Laws.{held_length}
use Rattle.rules.specs.Sizes.{Place, Input as Ruled, used}
use Rattle.rules.specs.Settings.{stored}
use Rattle.rules.specs.Reads.{Part, bytes_of, first_line, first_bytes}
use Rattle.input.specs.Contract.{places, all, get, put, Within, Sound}
use Rattle.input.specs.declared.Input.{Input}
use Rattle.input.proofs.Laws.{stored_all, used_of, finished_length, current_length, get_of, After, numbers_are, held_both, literal_same}
use Rattle.input.specs.reading.Contract.{Splits, TellsLine, leaves, gone, ReadsPart, ReadsLine, ReadsBytes, Gives, Given}
use Rattle.queue.specs.declared.Counted.{Counted}
use Rattle.input.specs.declared.reading.Line.{Line}
use Rattle.input.proofs.reading.FirstLine.{line_splits}

---- What a read gives and leaves

pub bytes_all : (xs ys : List ℕ) → length xs ≡ length ys → bytes_of (places xs ys) ≡ xs
bytes_all [] ys e = refl
bytes_all (x ∷ xs) [] e = absurd (omega arith)
bytes_all (x ∷ xs) (y ∷ ys) e = ap (λ (l : List ℕ). x ∷ l) (bytes_all xs ys (omega arith))

bytes_take : (k : ℕ) (xs ys : List ℕ) → length xs ≡ length ys → bytes_of (take k (places xs ys)) ≡ take k xs
bytes_take k xs ys e = map_take k (places xs ys) ∙ ap (take k) (bytes_all xs ys e)
  where
    map_take : (k : ℕ) (ps : List Place) → bytes_of (take k ps) ≡ take k (bytes_of ps)
    map_take zero ps = refl
    map_take (suc k) [] = refl
    map_take (suc k) (p ∷ ps) = ap (λ (l : List ℕ). p.byte ∷ l) (map_take k ps)

places_drop : (k : ℕ) (xs ys : List ℕ) → length xs ≡ length ys → places (drop k xs) (drop k ys) ≡ drop k (places xs ys)
places_drop zero xs ys e = refl
places_drop (suc k) [] ys e = refl
places_drop (suc k) (x ∷ xs) [] e = absurd (omega arith)
places_drop (suc k) (x ∷ xs) (y ∷ ys) e = places_drop k xs ys (omega arith)

-- a queue whose oldest t are gone
held_later : (q : Queue) (l : List ℕ) (t : ℕ) → t ≤ q.len → q.len ≤ length l
    → held (record { head = (q.head + t) % length l; len = q.len - t }) l ≡ drop t (held q l)
unfolding held
held_later q l t le fit =
    let N : ℕ = length l in
    let m : min (q.len - t) N ≡ q.len - t = omega arith in
    let n : min q.len N ≡ q.len = omega arith in
    ap (λ (x : ℕ). ring N x ((q.head + t) % N) l) m
    ∙ ring_mod N (q.len - t) (q.head + t) l
    ∙ sym (ap (λ (x : ℕ). drop t (ring N x q.head l)) n ∙ drop_ring N t q.len q.head l le)

-- as many as there are
bytes_splits : (n : ℕ) (ps : List Place) → Splits (first_bytes n ps) ps (min n (length ps)) (min n (length ps))
bytes_splits n ps =
    ⊎_elim
    (λ (w : n < length ps).
    let m : min n (length ps) ≡ n = omega arith in
    rw m (record { bytes = refl; left = refl; upto = omega arith; all = omega arith }))
    (λ (w : length ps ≤ n).
    let m : min n (length ps) ≡ length ps = omega arith in
    rw m
    (record {
      bytes = ap bytes_of (take_all n ps w ∙ sym (take_all (length ps) ps (omega arith)));
      left = drop_of_length-le ps {i = n} w ∙ sym (drop_of_length-le ps {i = length ps} (omega arith));
      upto = omega arith;
      all = omega arith;
    }))
    (lt_or_le n (length ps))

module _ (i : Input) (bs ms : List ℕ) (h : Sound i bs ms) where
  pub held_same : length (held i.queue bs) ≡ length (held i.queue ms)
  held_same = held_both i.queue bs ms h.same

  bytes_finished : (k : ℕ) → k ≤ i.ready → bytes_of (take k (get i bs ms).finished) ≡ take k (held i.queue bs)
  unfolding get all
  bytes_finished k le =
      ap bytes_of (take-take k i.ready (places (held i.queue bs) (held i.queue ms)) le)
      ∙ bytes_take k (held i.queue bs) (held i.queue ms) held_same

  module _ (p : Part) (k t : ℕ) (s : Splits p (get i bs ms).finished k t) where
    few : t ≤ i.ready
    few = omega (arith, s.all, finished_length i bs ms h.same h.within)

    left_count : length p.left ≡ i.ready - t
    left_count =
        ap length s.left ∙ length-drop t (get i bs ms).finished ∙ ap (λ (x : ℕ). x - t) (finished_length i bs ms h.same h.within)

    used_left : used (leaves (get i bs ms) p.left) ≡ i.queue.len - t
    used_left = omega (arith, left_count, current_length i bs ms h.same h.within, few, h.within.ready)

    gone_is : gone (get i bs ms) (leaves (get i bs ms) p.left) ≡ t
    gone_is = omega (arith, used_left, used_of i bs ms h.same h.within, few, h.within.ready)

    given_bytes : p.bytes ≡ take k (held i.queue bs)
    given_bytes = s.bytes ∙ bytes_finished k (omega (arith, s.upto, few))

    given_count : length p.bytes ≡ k
    given_count =
        ap length given_bytes
        ∙ length-take-le k (held i.queue bs) (omega (arith, held_length i.queue bs, s.upto, few, h.within.ready, h.within.len))

    left_numbers : ◌≡◌ {A = Input}
        (record { queue = record { head = (i.queue.head + t) % length bs; len = i.queue.len - t }; ready = i.ready - t; literal = i.literal })
        (put (leaves (get i bs ms) p.left) ((i.queue.head + gone (get i bs ms) (leaves (get i bs ms) p.left)) % length bs))
    left_numbers =
        numbers_are _ _ _ _ _ _ _ _ (ap (λ (x : ℕ). (i.queue.head + x) % length bs) (sym gone_is)) (sym used_left) (sym left_count)
        (sym (literal_same i bs ms))

    given_reads : (d : List ℕ) (r : Counted Input) (d' : List ℕ) → Given i bs d k t r d' → ReadsPart i bs ms d p r d'
    given_reads d r d' g =
        record {
          count = g.count ∙ sym given_count;
          input = g.input ∙ left_numbers;
          buffer =
              g.buffer
              ∙ ap (λ (l : List ℕ). l ++ drop k d) (sym given_bytes)
              ∙ ap (λ (x : ℕ). p.bytes ++ drop x d) (sym given_count);
        }

    -- what is held after the read: what the part leaves
    reads_after : (d : List ℕ) (r : Counted Input) (d' : List ℕ) → ReadsPart i bs ms d p r d'
        → After (leaves (get i bs ms) p.left) bs ms r.rest bs ms
    unfolding all
    reads_after d r d' g =
        let N : ℕ = length bs in
        let w : Ruled = leaves (get i bs ms) p.left in
        let e = g.input ∙ sym left_numbers in
        let le : t ≤ i.queue.len = omega (arith, few, h.within.ready) in
        let hb : held r.rest.queue bs ≡ drop t (held i.queue bs) =
        ap (λ (x : Input). held x.queue bs) e ∙ held_later i.queue bs t le h.within.len in
        let hm : held r.rest.queue ms ≡ drop t (held i.queue ms) =
        ap (λ (x : Input). held x.queue ms) e
        ∙ ap (λ (x : ℕ). held (record { head = (i.queue.head + t) % x; len = i.queue.len - t }) ms) h.same
        ∙ held_later i.queue ms t le (rw (← h.same) h.within.len) in
        let kept : drop t (all i bs ms) ≡ stored w =
        ap (drop t) (sym (stored_all i bs ms))
        ∙ drop-append-le t (get i bs ms).finished (reverse (get i bs ms).current) s.all
        ∙ ap (λ (l : List Place). l ++ reverse (get i bs ms).current) (sym s.left) in
        record {
          meaning =
              get_of r.rest bs ms w
              (ap (λ (l : List ℕ). places l (held r.rest.queue ms)) hb
              ∙ ap (places (drop t (held i.queue bs))) hm
              ∙ places_drop t (held i.queue bs) (held i.queue ms) held_same
              ∙ kept)
              (ap (λ (x : Input). x.ready) g.input) (ap (λ (x : Input). x.literal) g.input);
          within =
              rw e
              (record { head = mod-mod (i.queue.head + t) N; len = omega (arith, h.within.len); ready = omega (arith, h.within.ready) });
          bytes = refl;
          marks = refl;
        }

  -- a read of a line, of bytes
  pub line_after : (d : List ℕ) (r : Counted Input) (d' : List ℕ) → ReadsLine i bs ms d r d'
      → After (leaves (get i bs ms) (first_line (length d) (get i bs ms).finished).left) bs ms r.rest bs ms
  line_after d r d' g =
      let s = line_splits (length d) (get i bs ms).finished in
      reads_after (first_line (length d) (get i bs ms).finished) s.0 s.1 s.2 d r d' g

  pub bytes_after : (d : List ℕ) (r : Counted Input) (d' : List ℕ) → ReadsPart i bs ms d (first_bytes (length d) (get i bs ms).finished) r d'
      → After (leaves (get i bs ms) (first_bytes (length d) (get i bs ms).finished).left) bs ms r.rest bs ms
  bytes_after d r d' g =
      let ps : List Place = (get i bs ms).finished in
      let k : ℕ = min (length d) (length ps) in
      reads_after (first_bytes (length d) ps) k k (bytes_splits (length d) ps) d r d' g

  -- the ways out of read_line and read_bytes
  pub line_gives : (d : List ℕ) (l : Line) → TellsLine i ms (length d) l → Gives i bs d l.count l.taken
  line_gives d l tells =
      let s = tells bs h.same in
      record {
        within = h.within;
        upto = s.0.upto;
        finished = omega (arith, s.0.all, finished_length i bs ms h.same h.within);
        room = s.1;
      }

  module _ (d d' : List ℕ) (r : Counted Input) where
    pub line_reads : (l : Line) → TellsLine i ms (length d) l → Given i bs d l.count l.taken r d' → ReadsLine i bs ms d r d'
    line_reads l tells g =
        given_reads (first_line (length d) (get i bs ms).finished) l.count l.taken (tells bs h.same).0 d r d' g

    bytes_read : (k : ℕ) → k ≡ min (length d) i.ready → Given i bs d k k r d'
        → ReadsPart i bs ms d (first_bytes (length d) (get i bs ms).finished) r d'
    bytes_read k ek g =
        let ps : List Place = (get i bs ms).finished in
        let e : k ≡ min (length d) (length ps) = ek ∙ ap (min (length d)) (sym (finished_length i bs ms h.same h.within)) in
        given_reads (first_bytes (length d) ps) (min (length d) (length ps)) (min (length d) (length ps)) (bytes_splits (length d) ps) d r d'
        (rw (← e) g)

pub bytes_reads : (i : Input) (bs d : List ℕ) (k : ℕ) (r : Counted Input) (d' : List ℕ) → Within i (length bs) → k ≡ min (length d) i.ready
    → Given i bs d k k r d' → ReadsBytes i bs d r d'
bytes_reads i bs d k r d' h ek g ms e = bytes_read i bs ms (record { same = e; within = h }) d d' r k ek g

-- no second result fits
pub one_read : {i : Input} {bs ms d : List ℕ} {p : Part} {r s : Counted Input} {d' e' : List ℕ}
    → ReadsPart i bs ms d p r d' → ReadsPart i bs ms d p s e' → (r ≡ s) × (d' ≡ e')
one_read {r = r} {s = s} h k =
    (taken_is r.rest s.rest r.count s.count (h.input ∙ sym k.input) (h.count ∙ sym k.count), h.buffer ∙ sym k.buffer)
  where
    taken_is : (i j : Input) (n m : ℕ) → i ≡ j → n ≡ m → ◌≡◌ {A = Counted Input} (record { rest = i; count = n }) (record { rest = j; count = m })
    taken_is i j n m ei en = cc

pub one_read_bytes : {i : Input} {bs d : List ℕ} {r s : Counted Input} {d' e' : List ℕ} → ReadsBytes i bs d r d' → ReadsBytes i bs d s e'
    → (r ≡ s) × (d' ≡ e')
one_read_bytes {bs = bs} h k = one_read (h bs refl) (k bs refl)

---- give

queue_later : (h n N t : ℕ) (q : Queue) → n ≤ N → t ≤ n → q ≡ record { head = (h + min t (min n N)) % N; len = min n N - t }
    → q ≡ record { head = (h + t) % N; len = n - t }
queue_later h n N t q fit le e =
    let all : min n N ≡ n = omega arith in
    let few : min t n ≡ t = omega arith in
    e
    ∙ ap (λ (x : ℕ). record { head = (h + min t x) % N; len = x - t }) all
    ∙ ap (λ (x : ℕ). record { head = (h + x) % N; len = n - t }) few

-- a part of k places is filled whole
part_filled : (l d d' : List ℕ) (k : ℕ) → k ≤ length d → k ≤ length l
    → d' ≡ take (length (take k d)) l ++ drop (length (take (length (take k d)) l)) (take k d) → d' ≡ take k l
part_filled l d d' k ld ll e =
    let long : length (take k d) ≡ k = length-take-le k d ld in
    e
    ∙ ap (λ (x : ℕ). take x l ++ drop (length (take x l)) (take k d)) long
    ∙ ap (λ (x : ℕ). take k l ++ drop x (take k d)) (length-take-le k l ll)
    ∙ ap (◌++◌ (take k l)) (drop_of_length-le (take k d) {i = k} (omega (arith, long)))
    ∙ append-nil (take k l)

pub given_of_lem : (i : Input) (bs d : List ℕ) (k t : ℕ) (q : Queue) (f : Counted Queue) (d' : List ℕ) → Gives i bs d k t
    → Takes i.queue bs (take k d) f d'
    → q ≡ record { head = (i.queue.head + min t (min i.queue.len (length bs))) % length bs; len = min i.queue.len (length bs) - t }
    → Given i bs d k t (record { rest = record { queue = q; ready = i.ready - t; literal = i.literal }; count = k }) (d' ++ drop k d)
given_of_lem i bs d k t q f d' h g eq =
    let later = queue_later i.queue.head i.queue.len (length bs) t q h.within.len (omega (arith, h.finished, h.within.ready)) eq in
    let few : k ≤ length (held i.queue bs) =
    omega (arith, held_length i.queue bs, h.upto, h.finished, h.within.ready, h.within.len) in
    record {
      count = refl;
      input = ap (λ (x : Queue). record { queue = x; ready = i.ready - t; literal = i.literal }) later;
      buffer = ap (λ (x : List ℕ). x ++ drop k d) (part_filled (held i.queue bs) d d' k h.room few g.buffer);
    }
