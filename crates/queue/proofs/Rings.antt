-- Laws of a ring of N places in a list, for any N.
use mathlib.Core.Path.{◌≡◌, refl, sym, ap, ◌∙◌}
use mathlib.Core.Logic.{◌⊎◌, inl, inr, ⊎_elim}
use mathlib.Core.Bool.{Bool, true, false}
use lib.Dec.{ltb}
use borrow.Author.Tests.{ltb-true, ltb-false}
use mathlib.Core.List.{List, [], ◌∷◌, ◌++◌, append_assoc}
use Prim.Native.Nat.{ℕ, zero, suc, ◌+◌, ◌-◌, ◌%◌, ◌<◌, ◌≤◌, suc-le-suc}
use native.Mathlib.Nat.{add-zero, add-suc, suc-add, suc-mod, mod-mod, mod-add-mod, mod-lt, mod-eq_of_lt, mod-eq-sub-mod, le_of_suc-le-suc}
use native.Mathlib.Nat.{not-suc-le-zero, sub-zero, suc-sub-suc}
use native.Mathlib.Omega.{arith}
use lib.ListN.{length, get_or, set, take, drop, length-set}
use lib.Seq.{get_or-set_same, get_or-set_other}
use Rattle.std.proofs.lemmas.List.{append-nil}
use Rattle.queue.specs.Ring.{ring, stores}

pub lt_or_le : (a b : ℕ) → (a < b) ⊎ (b ≤ a)
lt_or_le a b = by (ltb a b) refl
  where
    by : (t : Bool) → ltb a b ≡ t → (a < b) ⊎ (b ≤ a)
    by true e = inl (ltb-true a b e)
    by false e = inr (ltb-false a b e)

pub ring_length : (N n h : ℕ) (l : List ℕ) → length (ring N n h l) ≡ n
ring_length N zero h l = refl
ring_length N (suc n) h l = ap suc (ring_length N n (suc h) l)

-- places that are equal mod N start the same ring
pub ring_same : (N n h g : ℕ) (l : List ℕ) → h % N ≡ g % N → ring N n h l ≡ ring N n g l
ring_same N zero h g l e = refl
ring_same N (suc n) h g l e =
    let e' : suc h % N ≡ suc g % N = suc-mod h N ∙ ap (λ (x : ℕ). suc x % N) e ∙ sym (suc-mod g N) in
    let t : ring N n (suc h) l ≡ ring N n (suc g) l = ring_same N n (suc h) (suc g) l e' in
    cc

pub ring_mod : (N n h : ℕ) (l : List ℕ) → ring N n (h % N) l ≡ ring N n h l
ring_mod N n h l = ring_same N n (h % N) h l (mod-mod h N)

-- one more at the end
pub ring_snoc : (N n h : ℕ) (l : List ℕ) → ring N (suc n) h l ≡ ring N n h l ++ (get_or l ((h + n) % N) 0 ∷ [])
ring_snoc N zero h l = rw add-zero
ring_snoc N (suc n) h l = rw (add-suc, ← suc-add) (ap (λ (t : List ℕ). get_or l (h % N) 0 ∷ t) (ring_snoc N n (suc h) l))

pub ring_agree : (N n h : ℕ) (l m : List ℕ) → ((k : ℕ) → k < n → get_or l ((h + k) % N) 0 ≡ get_or m ((h + k) % N) 0) → ring N n h l ≡ ring N n h m
ring_agree N zero h l m same = refl
ring_agree N (suc n) h l m same =
    let a : get_or l (h % N) 0 ≡ get_or m (h % N) 0 = rw add-zero at (same 0 (omega arith)) in
    let t : ring N n (suc h) l ≡ ring N n (suc h) m =
    ring_agree N n (suc h) l m (λ k lt. rw (suc-add, ← add-suc) (same (suc k) (suc-le-suc lt))) in
    cc

-- two places less than N apart are not equal mod N
pub apart : (N a d : ℕ) → 0 < d → d < N → (a + d) % N ≡ a % N → ⊥
apart N a d pos lt e =
    let r : a % N < N = mod-lt a (omega arith) in
    let e' : (a % N + d) % N ≡ a % N = mod-add-mod a N d ∙ e in
    ⊎_elim
    (λ (w : a % N + d < N). omega (arith, mod-eq_of_lt w))
    (λ (w : N ≤ a % N + d).
    let s : a % N + d - N < N = omega arith in
    omega (arith, mod-eq-sub-mod w, mod-eq_of_lt s))
    (lt_or_le (a % N + d) N)

-- a store at the place after the last one
pub ring_set : (N n h b : ℕ) (l : List ℕ) → N ≤ length l → n < N → ring N (suc n) h (set l ((h + n) % N) b) ≡ ring N n h l ++ (b ∷ [])
ring_set N n h b l len lt =
    let i : ℕ = (h + n) % N in
    let pos : 0 < N = omega arith in
    let in' : i < length l = omega (arith, mod-lt (h + n) pos) in
    let other : (k : ℕ) → k < n → get_or (set l i b) ((h + k) % N) 0 ≡ get_or l ((h + k) % N) 0 =
    λ k kn. get_or-set_other l i ((h + k) % N) b 0
    (λ e. apart N (h + k) (n - k) (omega arith) (omega arith)
    (ap (λ (x : ℕ). x % N) (omega arith) ∙ sym e)) in
    ring_snoc N n h (set l i b)
    ∙ ap (λ (t : List ℕ). t ++ (get_or (set l i b) i 0 ∷ [])) (ring_agree N n h (set l i b) l other)
    ∙ ap (λ (x : ℕ). ring N n h l ++ (x ∷ [])) (get_or-set_same l i b 0 in')

pub stores_length : (N i : ℕ) (l bs : List ℕ) → length (stores N l i bs) ≡ length l
stores_length N i l [] = refl
stores_length N i l (b ∷ bs) = stores_length N (suc i) (set l (i % N) b) bs ∙ length-set l (i % N) b

pub stores_snoc : (N i b : ℕ) (l bs : List ℕ) → stores N l i (bs ++ (b ∷ [])) ≡ set (stores N l i bs) ((i + length bs) % N) b
stores_snoc N i b l [] = rw add-zero
stores_snoc N i b l (x ∷ bs) = rw (add-suc, ← suc-add) (stores_snoc N (suc i) b (set l (i % N) x) bs)

-- a run of stores after the last place
pub ring_stores : (N n h : ℕ) (l bs : List ℕ) → N ≤ length l → n + length bs ≤ N → ring N (n + length bs) h (stores N l (h + n) bs) ≡ ring N n h l ++ bs
ring_stores N n h l [] len le = rw add-zero (sym (append-nil (ring N n h l)))
ring_stores N n h l (b ∷ bs) len le =
    let e : h + suc n ≡ suc (h + n) = add-suc h n in
    let l' : List ℕ = set l ((h + n) % N) b in
    let s : n + suc (length bs) ≡ suc n + length bs = omega arith in
    let rec : ring N (suc n + length bs) h (stores N l' (h + suc n) bs) ≡ ring N (suc n) h l' ++ bs =
    ring_stores N (suc n) h l' bs (rw length-set len) (omega arith) in
    rw (s, ← e) (rec ∙ ap (λ (t : List ℕ). t ++ bs) (ring_set N n h b l len (omega arith)) ∙ append_assoc (ring N n h l) (b ∷ []) bs)

pub take_ring : (N k n h : ℕ) (l : List ℕ) → k ≤ n → take k (ring N n h l) ≡ ring N k h l
take_ring N zero n h l le = refl
take_ring N (suc k) zero h l le = absurd (not-suc-le-zero le)
take_ring N (suc k) (suc n) h l le = ap (λ (t : List ℕ). get_or l (h % N) 0 ∷ t) (take_ring N k n (suc h) l (le_of_suc-le-suc le))

pub drop_ring : (N k n h : ℕ) (l : List ℕ) → k ≤ n → drop k (ring N n h l) ≡ ring N (n - k) (h + k) l
drop_ring N zero n h l le = rw (sub-zero, add-zero)
drop_ring N (suc k) zero h l le = absurd (not-suc-le-zero le)
drop_ring N (suc k) (suc n) h l le = rw (suc-sub-suc, add-suc, ← suc-add) (drop_ring N k n (suc h) l (le_of_suc-le-suc le))

pub stores_same : (N i j : ℕ) (l bs : List ℕ) → i % N ≡ j % N → stores N l i bs ≡ stores N l j bs
stores_same N i j l [] e = refl
stores_same N i j l (b ∷ bs) e =
    ap (λ (k : ℕ). stores N (set l k b) (suc i) bs) e
    ∙ stores_same N (suc i) (suc j) (set l (j % N) b) bs (suc-mod i N ∙ ap (λ (x : ℕ). suc x % N) e ∙ sym (suc-mod j N))
