-- Laws of what a queue holds, and one lemma for each way out of its functions. Assumes nothing.
use mathlib.Core.Path.{◌≡◌, refl, sym, ap, ◌∙◌}
use mathlib.Core.List.{List, [], ◌∷◌, ◌++◌}
use Prim.Native.Nat.{ℕ, zero, suc, ◌+◌, ◌%◌, ◌<◌, ◌≤◌, min}
use native.Mathlib.Nat.{add-zero, zero-add, add-suc, suc-add, mod-add-mod}
use native.Mathlib.Omega.{arith}
use lib.ListN.{length, get_or, set, length-append}
use lib.Seq.{set-get_or}
use Rattle.std.proofs.lemmas.List.{get_or_past}
use borrow.Author.Tests.{le-leb, lt-leb, lt-ltb}
use Rattle.queue.specs.Ring.{ring, stores}
use Rattle.queue.specs.Queue.{held, fitted, laid, appended, changed, Holds}
use Rattle.queue.specs.declared.Queue.{Queue}
use Rattle.queue.proofs.Rings.{ring_length, ring_mod, ring_stores, stores_length}

---- Stores

pub stores_append : (N i : ℕ) (l e f : List ℕ) → stores N l i (e ++ f) ≡ stores N (stores N l i e) (i + length e) f
stores_append N i l [] f = rw add-zero
stores_append N i l (b ∷ e) f = rw (add-suc, ← suc-add) (stores_append N (suc i) (set l (i % N) b) e f)

-- what is held already, stored again
pub stores_ring : (N n h : ℕ) (l : List ℕ) → stores N l h (ring N n h l) ≡ l
stores_ring N zero h l = refl
stores_ring N (suc n) h l =
    ap (λ (m : List ℕ). stores N m (suc h) (ring N n (suc h) l)) (set-get_or l (h % N) 0) ∙ stores_ring N n (suc h) l

-- the contents stored again at the head change nothing
pub put_same : (N n h : ℕ) (l : List ℕ) → l ≡ stores N l (h % N) (ring N n h l)
put_same N n h l = sym (rw (← ring_mod N n h l) (stores_ring N n (h % N) l))

-- a run of stores behind the newest is the store of the whole new contents
pub put_append : (N n h : ℕ) (l bs : List ℕ) → stores N l (h % N + n) bs ≡ stores N l (h % N) (ring N n h l ++ bs)
put_append N n h l bs =
    sym
    (stores_append N (h % N) l (ring N n h l) bs
    ∙ ap (λ (m : List ℕ). stores N m (h % N + length (ring N n h l)) bs) (sym (put_same N n h l))
    ∙ ap (λ (k : ℕ). stores N l (h % N + k) bs) (ring_length N n h l))

---- What a queue holds

-- what is stored whole is held whole
pub ring_put : (N g : ℕ) (l c : List ℕ) → N ≤ length l → length c ≤ N → ring N (length c) g (stores N l g c) ≡ c
ring_put N g l c fit le = rw (zero-add, add-zero) at (ring_stores N 0 g l c fit (omega arith))

pub held_length : (q : Queue) (l : List ℕ) → length (held q l) ≡ min q.len (length l)
unfolding held
held_length q l = ring_length (length l) (min q.len (length l)) q.head l

pub held_fitted : (q : Queue) (l : List ℕ) → held (fitted (length l) q) l ≡ held q l
unfolding held
held_fitted q l =
    let n : ℕ = length l in
    let m : min (min q.len n) n ≡ min q.len n = omega arith in
    rw (m, ring_mod)

-- a queue that is laid whole is held
pub held_laid : (h : ℕ) (l c : List ℕ) → length c ≤ length l → held (laid h c) (stores (length l) l h c) ≡ c
unfolding held
held_laid h l c le =
    let N : ℕ = length l in
    let m : min (length c) N ≡ length c = omega arith in
    let n : length (stores N l h c) ≡ N = stores_length N h l c in
    rw (n, m) (ring_put N h l c (omega arith) le)

-- and a queue that is laid there already changes nothing
pub laid_again : (q : Queue) (l : List ℕ) → l ≡ stores (length l) l (q.head % length l) (held q l)
unfolding held
laid_again q l = put_same (length l) (min q.len (length l)) q.head l

pub laid_fitted : (q : Queue) (l : List ℕ) → fitted (length l) q ≡ laid (q.head % length l) (held q l)
laid_fitted q l = ap (λ (k : ℕ). record { head = q.head % length l; len = k }) (sym (held_length q l))

---- push

pub appended_fits : (N : ℕ) (c bs : List ℕ) → length c + length bs ≤ N → appended N c bs ≡ c ++ bs
appended_fits N c bs le = rw (le-leb (length c + length bs) N le)

appended_full : (N : ℕ) (c bs : List ℕ) → N < length c + length bs → appended N c bs ≡ c
appended_full N c bs lt = rw (lt-leb (length c + length bs) N lt)

pub holds_same : (q r : Queue) (l c : List ℕ) → r ≡ fitted (length l) q → c ≡ held q l → Holds q l c r l
holds_same q r l c er ec =
    record {
      queue = er ∙ laid_fitted q l ∙ ap (laid (q.head % length l)) (sym ec);
      ring = laid_again q l ∙ ap (stores (length l) l (q.head % length l)) (sym ec);
    }

pub pushed_full : (q r : Queue) (l bs : List ℕ) → r ≡ fitted (length l) q → length l < min q.len (length l) + length bs
    → Holds q l (appended (length l) (held q l) bs) r l
pushed_full q r l bs er lt =
    holds_same q r l (appended (length l) (held q l) bs) er (appended_full (length l) (held q l) bs (rw held_length lt))

pub pushed_fits : (q : Queue) (l l' bs : List ℕ) → min q.len (length l) + length bs ≤ length l
    → l' ≡ stores (length l) l (q.head % length l + min q.len (length l)) bs
    → Holds q l (appended (length l) (held q l) bs) (record { head = q.head % length l; len = min q.len (length l) + length bs }) l'
unfolding held
pushed_fits q l l' bs le el =
    let c : List ℕ = ring (length l) (min q.len (length l)) q.head l in
    let n : length c ≡ min q.len (length l) = ring_length (length l) (min q.len (length l)) q.head l in
    let e : appended (length l) c bs ≡ c ++ bs = appended_fits (length l) c bs (rw n le) in
    let k : length (c ++ bs) ≡ min q.len (length l) + length bs = length-append c bs ∙ ap (λ (x : ℕ). x + length bs) n in
    record {
      queue = ap (λ (x : ℕ). record { head = q.head % length l; len = x }) (sym k) ∙ ap (laid (q.head % length l)) (sym e);
      ring = el ∙ put_append (length l) (min q.len (length l)) q.head l bs ∙ ap (stores (length l) l (q.head % length l)) (sym e);
    }

-- one byte more, from the queue p in range
pub push_of : (q p : Queue) (l : List ℕ) (b a : ℕ) → p ≡ fitted (length l) q → p.len < length l → a ≡ (p.head + p.len) % length l
    → Holds q l (appended (length l) (held q l) (b ∷ [])) (record { head = p.head; len = p.len + 1 }) (set l a b)
push_of q p l b a e lt ea =
    let k : p.len ≡ min q.len (length l) = rw e in
    rw e (pushed_fits q l (set l a b) (b ∷ []) (omega arith) (ap (λ (x : ℕ). set l x b) (rw e at ea)))

---- at, change

get_or_ring : (N n h i : ℕ) (l : List ℕ) → i < n → get_or (ring N n h l) i 0 ≡ get_or l ((h + i) % N) 0
get_or_ring N zero h i l lt = absurd (omega arith)
get_or_ring N (suc n) h zero l lt = rw add-zero
get_or_ring N (suc n) h (suc i) l lt = rw (add-suc, ← suc-add) (get_or_ring N n (suc h) i l (omega arith))

pub at_in : (q : Queue) (l : List ℕ) (i a : ℕ) → i < min q.len (length l) → a ≡ (q.head % length l + i) % length l
    → get_or l a 0 ≡ get_or (held q l) i 0
unfolding held
at_in q l i a lt e =
    ap (λ (k : ℕ). get_or l k 0) (e ∙ mod-add-mod q.head (length l) i) ∙ sym (get_or_ring (length l) (min q.len (length l)) q.head i l lt)

pub at_out : (q : Queue) (l : List ℕ) (i : ℕ) → min q.len (length l) ≤ i → 0 ≡ get_or (held q l) i 0
at_out q l i le = sym (get_or_past (held q l) i 0 (rw held_length le))

pub changed_in : (q : Queue) (l : List ℕ) (i b a : ℕ) → i < min q.len (length l) → a ≡ (q.head % length l + i) % length l
    → set l a b ≡ changed q l i b
changed_in q l i b a lt e =
    ap (λ (k : ℕ). set l k b) (e ∙ mod-add-mod q.head (length l) i)
    ∙ rw (lt-ltb i (min q.len (length l)) lt)

---- Laid twice

-- contents that are laid already are stored again: nothing changes
pub stored_again : (N g : ℕ) (l c : List ℕ) → N ≤ length l → length c ≤ N → stores N (stores N l g c) g c ≡ stores N l g c
stored_again N g l c fit le =
    ap (stores N (stores N l g c) g) (sym (ring_put N g l c fit le)) ∙ stores_ring N (length c) g (stores N l g c)

-- more is laid behind what is laid already
pub stored_more : (N g : ℕ) (l c e : List ℕ) → N ≤ length l → length c ≤ N → stores N (stores N l g c) g (c ++ e) ≡ stores N l g (c ++ e)
stored_more N g l c e fit le =
    stores_append N g (stores N l g c) c e
    ∙ ap (λ (m : List ℕ). stores N m (g + length c) e) (stored_again N g l c fit le)
    ∙ sym (stores_append N g l c e)

pub holds_room : (q r : Queue) (l l' bs : List ℕ) → min q.len (length l) + length bs ≤ length l
    → Holds q l (appended (length l) (held q l) bs) r l' → Holds q l (held q l ++ bs) r l'
holds_room q r l l' bs le h =
    let e : appended (length l) (held q l) bs ≡ held q l ++ bs = appended_fits (length l) (held q l) bs (rw held_length le) in
    record { queue = h.queue ∙ ap (laid (q.head % length l)) e; ring = h.ring ∙ ap (stores (length l) l (q.head % length l)) e }
