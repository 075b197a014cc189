-- What REPRINT shows, place by place. Assumes nothing.
use mathlib.Core.Path.{◌≡◌, refl, sym, ap, ◌∙◌}
use mathlib.Core.Logic.{⊎_elim}
use mathlib.Core.Bool.{Bool, true, false, not, ◌&&◌, ◌||◌, cond}
use mathlib.Core.List.{List, [], ◌∷◌, ◌++◌, append-nil}
use Prim.Native.Nat.{ℕ, suc, ◌+◌, ◌-◌, ◌<◌, ◌≤◌}
use native.Mathlib.Nat.{le_antisymm}
use native.Mathlib.Numerals.{add-one}
use native.Mathlib.Omega.{arith}
use lib.ListN.{length, get_or}
use borrow.Author.Tests.{eq-eqb, ne_eqb}
use Rattle.queue.specs.Queue.{held}
use Rattle.queue.proofs.Rings.{lt_or_le}
use Rattle.rules.specs.Sizes.{Place}
use Rattle.rules.specs.Editing.{joined, units}
use Rattle.rules.specs.Echo.{visible, line_echo}
use Rattle.rules.specs.declared.Settings.{Settings}
use Rattle.input.specs.Contract.{line_to, Within}
use Rattle.input.specs.declared.Input.{Input}
use Rattle.editing.specs.Contract.{place_at, units_to, shows_at}
use Rattle.editing.proofs.Laws.{line_next, line_none}

---- What the line shows

echo_joined : (x : Settings) (p q : Place) (us : List (List Place)) → line_echo x (joined p (joined q us)) ≡ line_echo x (joined q us)
echo_joined x p q [] = refl
echo_joined x p q ([] ∷ us) = refl
echo_joined x p q ((a ∷ u) ∷ us) = refl

-- a further place of the last unit shows nothing more
echo_further : (x : Settings) (p q : Place) (l : List Place) → line_echo x (joined p (units (q ∷ l))) ≡ line_echo x (units (q ∷ l))
echo_further x p q l = go q.starts
  where
    go : (t : Bool)
        → line_echo x (joined p (cond t ((q ∷ []) ∷ units l) (joined q (units l))))
        ≡ line_echo x (cond t ((q ∷ []) ∷ units l) (joined q (units l)))
    go true = refl
    go false = echo_joined x p q (units l)

seen : (s : Bool) (v : List ℕ) → cond s [] v ≡ cond (not s && true) v []
seen true v = refl
seen false v = refl

unseen : (s : Bool) (v : List ℕ) → cond (not s && false) v [] ≡ []
unseen true v = refl
unseen false v = refl

-- the first place of the line, and a place behind another
echo_begins : (x : Settings) (p : Place) → line_echo x (units (p ∷ [])) ≡ cond (not p.silent && true) (visible x p.byte) []
echo_begins x p = go p.starts
  where
    go : (t : Bool) → line_echo x (cond t ((p ∷ []) ∷ []) ((p ∷ []) ∷ [])) ≡ cond (not p.silent && true) (visible x p.byte) []
    go true = seen p.silent (visible x p.byte)
    go false = seen p.silent (visible x p.byte)

echo_behind : (x : Settings) (p q : Place) (l : List Place)
    → line_echo x (units (p ∷ q ∷ l)) ≡ line_echo x (units (q ∷ l)) ++ cond (not p.silent && p.starts) (visible x p.byte) []
echo_behind x p q l = go p.starts
  where
    go : (t : Bool)
        → line_echo x (cond t ((p ∷ []) ∷ units (q ∷ l)) (joined p (units (q ∷ l))))
        ≡ line_echo x (units (q ∷ l)) ++ cond (not p.silent && t) (visible x p.byte) []
    go true = ap (◌++◌ (line_echo x (units (q ∷ l)))) (seen p.silent (visible x p.byte))
    go false =
        echo_further x p q l
        ∙ sym (append-nil (line_echo x (units (q ∷ l))))
        ∙ ap (◌++◌ (line_echo x (units (q ∷ l)))) (sym (unseen p.silent (visible x p.byte)))

-- what the line before place k shows, and its byte where it begins a unit that had an echo
pub echo_next : (x : Settings) (i : Input) (bs ms : List ℕ) (k : ℕ) → length bs ≡ length ms → Within i (length ms) → i.ready ≤ k → k < i.queue.len
    → line_echo x (units_to i bs ms (k + 1))
    ≡ line_echo x (units_to i bs ms k) ++ cond (shows_at i ms k) (visible x (get_or (held i.queue bs) k 0)) []
echo_next x i bs ms k e h le lt =
    let p : Place = place_at i bs ms k in
    let line : List Place = line_to i bs ms k in
    let shown : Bool → List ℕ = λ t. cond (not p.silent && (t || p.starts)) (visible x p.byte) [] in
    ap (λ (n : ℕ). line_echo x (units_to i bs ms n)) (add-one k)
    ∙ ap (λ (l : List Place). line_echo x (units l)) (line_next i bs ms e h k le lt)
    ∙ ⊎_elim
    (λ (w : i.ready < k).
    let j : ℕ = k - 1 in
    let ek : suc j ≡ k = omega arith in
    let q : Place = place_at i bs ms j in
    let more : line ≡ q ∷ line_to i bs ms j =
    ap (line_to i bs ms) (sym ek) ∙ line_next i bs ms e h j (omega arith) (omega arith) in
    ap (λ (l : List Place). line_echo x (units (p ∷ l))) more
    ∙ echo_behind x p q (line_to i bs ms j)
    ∙ ap (λ (l : List Place). line_echo x (units l) ++ shown false) (sym more)
    ∙ ap (λ (t : Bool). line_echo x (units line) ++ shown t) (sym (ne_eqb k i.ready (λ same. omega arith))))
    (λ (w : k ≤ i.ready).
    let none : line ≡ [] = line_none i bs ms e h k w in
    ap (λ (l : List Place). line_echo x (units (p ∷ l))) none
    ∙ echo_begins x p
    ∙ ap (λ (l : List Place). line_echo x (units l) ++ shown true) (sym none)
    ∙ ap (λ (t : Bool). line_echo x (units line) ++ shown t) (sym (eq-eqb k i.ready (le_antisymm w le))))
    (lt_or_le i.ready k)
