-- Demand 3 of traces follows from that of the rules: a trace prints the replies of a run of the calls that its records make. Assumes nothing.
use Prim.Native.Nat.{ℕ, zero, suc, ◌/◌, ◌%◌, ◌≤◌}
use native.Mathlib.Omega.{arith}
use mathlib.Core.Path.{◌≡◌, refl, sym, ap, subst, ◌∙◌}
use mathlib.Core.List.{List, [], ◌∷◌, ◌++◌, append_assoc, append-nil}
use lib.ListN.{length, length-append}
use lib.Seq.{take-append_seam, drop-append_seam}
use borrow.Author.Tests.{le-leb}
use Rattle.rules.specs.declared.Settings.{Settings}
use Rattle.rules.specs.Sizes.{Sizes, State, base}
use Rattle.rules.specs.Settings.{fresh}
use Rattle.rules.specs.Refusals.{Reply}
use Rattle.rules.specs.Step.{Asked, run, after}
use Rattle.rules.specs.Trace.{Decoded, well_formed, malformed, a_record, body_of, front, two, answered, line, full_line, trace_from}
use Rattle.secrecy.specs.Statement.{Each, none, more, Quiet, MayDiffer, Brings, Alike}
use Rattle.secrecy.proofs.Theorem.{secrecy}
use Rattle.secrecy.proofs.Given.{same_delivered}
use Rattle.trace.proofs.Rules.{fronted, by_front}
use Rattle.discreet.proofs.traces.Given.{record_gives_none}
use Rattle.discreet.specs.traces.Statement.{Rec, encoded, encoded_all, Ends, at_end, in_record, meant, asked, calls_of, Keeps, RecordsDiffer}
use Rattle.discreet.specs.traces.Statement.{PrintedAlike, ends, prints, FromState, settings_after, Demand3Traces}

---- What stands at the front

two_of : (n : ℕ) → two (n % 256) (n / 256) ≡ n
two_of n = omega arith

body_of_lem : (n k : ℕ) (body l : List ℕ) → n ≡ length body → body_of n k (body ++ l) ≡ a_record k body l
body_of_lem n k body l e =
    let le : length body ≤ length (body ++ l) = rw (length-append body l) (omega arith) in
    rw (e, le-leb (length body) (length (body ++ l)) le, take-append_seam body l, drop-append_seam body l)

front_of : (r : Rec) (l : List ℕ) → front (encoded r ++ l) ≡ a_record r.kind r.body l
front_of r l =
    ap (λ (k : ℕ). body_of (two (length r.body % 256) (length r.body / 256)) k (r.body ++ l)) (two_of r.kind)
    ∙ body_of_lem (two (length r.body % 256) (length r.body / 256)) r.kind r.body l (two_of (length r.body))

---- What is printed

by_record : (z : Sizes) (m i : ℕ) (s : State) (r : Rec) (l : List ℕ)
    → trace_from z (suc m) i s (encoded r ++ l)
    ≡ line i r.kind (answered z s (meant r)).1 ++ trace_from z m (suc i) (answered z s (meant r)).0 l
by_record z m i s r l = by_front z m i s (encoded r ++ l) ∙ ap (fronted z m i s) (front_of r l)

-- the first of the records, then the others
by_records : (z : Sizes) (m i : ℕ) (s : State) (r : Rec) (rs : List Rec) (l : List ℕ)
    → trace_from z (suc m) i s (encoded_all (r ∷ rs) ++ l)
    ≡ line i r.kind (answered z s (meant r)).1 ++ trace_from z m (suc i) (answered z s (meant r)).0 (encoded_all rs ++ l)
by_records z m i s r rs l =
    ap (trace_from z (suc m) i s) (append_assoc (encoded r) (encoded_all rs) l) ∙ by_record z m i s r (encoded_all rs ++ l)

---- Calls of records that differ

calls_same : (x : Settings) (d : Decoded) {l m : List Asked} → Keeps d → Each (MayDiffer x) l m → Each (MayDiffer x) (asked d ++ l) (asked d ++ m)
calls_same x (well_formed a) k e = more (MayDiffer.same refl k) e
calls_same x malformed k e = e

calls_differ : (x : Settings) (d f : Decoded) (a b : Asked) (m n : ℕ) {l k : List Asked} → d ≡ well_formed a → f ≡ well_formed b
    → Brings x a.call m → Brings x b.call n → Each (MayDiffer x) l k → Each (MayDiffer x) (asked d ++ l) (asked f ++ k)
calls_differ x d f a b m n u v p q e = rw (u, v) (more (MayDiffer.differ m n p q) e)

calls_one : (x : Settings) (r t : Rec) {l m : List Asked} → RecordsDiffer x r t → Each (MayDiffer x) l m
    → Each (MayDiffer x) (asked (meant r) ++ l) (asked (meant t) ++ m)
calls_one x r t {l} {m} (RecordsDiffer.same e k) ds =
    subst (λ (y : Rec). Each (MayDiffer x) (asked (meant r) ++ l) (asked (meant y) ++ m)) e (calls_same x (meant r) k ds)
calls_one x r t (RecordsDiffer.differ a b m n e u v p q) ds = calls_differ x (meant r) (meant t) a b m n u v p q ds

calls_differing : (x : Settings) (rs ts : List Rec) → Each (RecordsDiffer x) rs ts → Each (MayDiffer x) (calls_of rs) (calls_of ts)
calls_differing x [] [] none = none
calls_differing x [] (t ∷ ts) d = elim d [ ]
calls_differing x (r ∷ rs) [] d = elim d [ ]
calls_differing x (r ∷ rs) (t ∷ ts) (more d ds) = calls_one x r t d (calls_differing x rs ts ds)

---- Two runs whose replies are alike print alike

module _ (x : Settings) (one other : List Asked) where
  same_alike : (r : Reply) → Alike x one other r r
  same_alike r = record { answer = refl; sent = refl; given = same_delivered x one other r.given }

  module _ (z : Sizes) where
    -- the replies to two records, and to the calls that are left
    record Next (s t : State) (d f : Decoded) (cs bs : List Asked) : Type 0 where
      now : Alike x one other (answered z s d).1 (answered z t f).1
      later : Each (Alike x one other) (run z (answered z s d).0 cs) (run z (answered z t f).0 bs)

    next_called : (s t : State) (a b : Asked) (cs bs : List Asked)
        → Each (Alike x one other) (run z s (a ∷ cs)) (run z t (b ∷ bs)) → Next s t (well_formed a) (well_formed b) cs bs
    next_called s t a b cs bs (more h e) = record { now = h; later = e }

    next_same : (s t : State) (d : Decoded) (cs bs : List Asked)
        → Each (Alike x one other) (run z s (asked d ++ cs)) (run z t (asked d ++ bs)) → Next s t d d cs bs
    next_same s t (well_formed a) cs bs e = next_called s t a a cs bs e
    next_same s t malformed cs bs e = record { now = same_alike _; later = e }

    next_differ : (s t : State) (d f : Decoded) (a b : Asked) (cs bs : List Asked) → d ≡ well_formed a → f ≡ well_formed b
        → Each (Alike x one other) (run z s (asked d ++ cs)) (run z t (asked f ++ bs)) → Next s t d f cs bs
    next_differ s t d f a b cs bs u v = rw (u, v) (next_called s t a b cs bs)

    next : (s t : State) (r v : Rec) (cs bs : List Asked) → RecordsDiffer x r v
        → Each (Alike x one other) (run z s (asked (meant r) ++ cs)) (run z t (asked (meant v) ++ bs)) → Next s t (meant r) (meant v) cs bs
    next s t r v cs bs (RecordsDiffer.same e k) =
        subst (λ (y : Rec). Each (Alike x one other) (run z s (asked (meant r) ++ cs)) (run z t (asked (meant y) ++ bs)) → Next s t (meant r) (meant y) cs bs)
        e (next_same s t (meant r) cs bs)
    next s t r v cs bs (RecordsDiffer.differ a b m n e u w p q) = next_differ s t (meant r) (meant v) a b cs bs u w

    kind_same : (r v : Rec) → RecordsDiffer x r v → r.kind ≡ v.kind
    kind_same r v (RecordsDiffer.same e k) = ap (λ (y : Rec). y.kind) e
    kind_same r v (RecordsDiffer.differ a b m n e u w p q) = e

    alike_equal : (l m : List ℕ) → l ≡ m → PrintedAlike x one other l m
    alike_equal l m e = subst (λ (y : List ℕ). PrintedAlike x one other l y) e ends

    two_lines : (i j k : ℕ) (r t : Reply) (l m first second : List ℕ) → first ≡ line i j r ++ l → second ≡ line i k t ++ m → j ≡ k
        → Alike x one other r t → ((j ≡ 8 → ⊥) → r.given ≡ t.given) → PrintedAlike x one other l m → PrintedAlike x one other first second
    two_lines i j k r t l m first second u v e a g p =
        rw (u, v) (subst (λ (y : ℕ). PrintedAlike x one other (line i j r ++ l) (line i y t ++ m)) e (prints i j r t a g p))

    -- what is answered to two records of one kind, which is no read's
    given_same : (s t : State) (r v : Rec) → r.kind ≡ v.kind → (r.kind ≡ 8 → ⊥) → (answered z s (meant r)).1.given ≡ (answered z t (meant v)).1.given
    given_same s t r v e h =
        record_gives_none z s r.kind r.body h ∙ sym (record_gives_none z t v.kind v.body (λ k. h (e ∙ k)))

    ended : (m i : ℕ) (s t : State) (tail : List ℕ) → Ends tail → trace_from z m i s tail ≡ trace_from z m i t tail
    ended zero i s t tail e = refl
    ended (suc m) i s t tail (at_end e) =
        by_front z m i s tail ∙ ap (fronted z m i s) e ∙ sym (ap (fronted z m i t) e) ∙ sym (by_front z m i t tail)
    ended (suc m) i s t tail (in_record e) =
        by_front z m i s tail ∙ ap (fronted z m i s) e ∙ sym (ap (fronted z m i t) e) ∙ sym (by_front z m i t tail)

    printed : (m i : ℕ) (s t : State) (rs ts : List Rec) (tail : List ℕ) → Each (RecordsDiffer x) rs ts → Ends tail
        → Each (Alike x one other) (run z s (calls_of rs)) (run z t (calls_of ts))
        → PrintedAlike x one other (trace_from z m i s (encoded_all rs ++ tail)) (trace_from z m i t (encoded_all ts ++ tail))
    printed m i s t [] [] tail none e h = alike_equal _ _ (ended m i s t tail e)
    printed m i s t [] (v ∷ ts) tail d e h = elim d [ ]
    printed zero i s t (r ∷ rs) [] tail d e h = elim d [ ]
    printed (suc m) i s t (r ∷ rs) [] tail d e h = elim d [ ]
    printed zero i s t (r ∷ rs) (v ∷ ts) tail (more d ds) e h = ends
    printed (suc m) i s t (r ∷ rs) (v ∷ ts) tail (more d ds) e h =
        let n : Next s t (meant r) (meant v) (calls_of rs) (calls_of ts) = next s t r v (calls_of rs) (calls_of ts) d h in
        let go : PrintedAlike x one other
        (trace_from z m (suc i) (answered z s (meant r)).0 (encoded_all rs ++ tail))
        (trace_from z m (suc i) (answered z t (meant v)).0 (encoded_all ts ++ tail))
        = printed m (suc i) (answered z s (meant r)).0 (answered z t (meant v)).0 rs ts tail ds e n.later in
        two_lines i r.kind v.kind (answered z s (meant r)).1 (answered z t (meant v)).1 _ _ _ _
        (by_records z m i s r rs tail) (by_records z m i t v ts tail) (kind_same r v d) n.now (given_same s t r v (kind_same r v d)) go

from_here : (z : Sizes) (rs ts : List Rec) (tail : List ℕ) (x : Settings) → Quiet x → Each (RecordsDiffer x) rs ts → Ends tail
    → (limit index : ℕ) (s : State) → s.settings ≡ x
    → PrintedAlike x (calls_of rs) (calls_of ts) (trace_from z limit index s (encoded_all rs ++ tail)) (trace_from z limit index s (encoded_all ts ++ tail))
from_here z rs ts tail x q ds e limit index s h =
    let Runs : Settings → Type 0 = λ y. Each (Alike y (calls_of rs) (calls_of ts)) (run z s (calls_of rs)) (run z s (calls_of ts)) in
    printed x (calls_of rs) (calls_of ts) z limit index s s rs ts tail ds e
    (subst (λ (y : Settings). Quiet y → Each (MayDiffer y) (calls_of rs) (calls_of ts) → Runs y) h
    (secrecy z s (calls_of rs) (calls_of ts)) q (calls_differing x rs ts ds))

-- DEMAND 3 of the lines printed from any state on
pub from_state : FromState
from_state z limit index s rs ts tail q ds e = from_here z rs ts tail s.settings q ds e limit index s refl

---- The records that both traces begin with

-- a record answered is its calls made
answered_after : (z : Sizes) (s : State) (d : Decoded) (l : List Asked) → after z s (asked d ++ l) ≡ after z (answered z s d).0 l
answered_after z s (well_formed a) l = refl
answered_after z s malformed l = refl

-- the two texts after a common one
abbrev Follow : Settings → List Asked → List Asked → List ℕ → List ℕ → List ℕ → Type 0
Follow x one other common first second =
    (l : List ℕ) × (m : List ℕ) × (first ≡ common ++ l) × (second ≡ common ++ m) × PrintedAlike x one other l m

after_none : (common l : List ℕ) → common ≡ [] → l ≡ common ++ l
after_none common l e = ap (λ (y : List ℕ). y ++ l) (sym e)

follow_line : (x : Settings) (one other : List Asked) (head rest common fore first after second : List ℕ)
    → common ≡ head ++ rest → first ≡ head ++ fore → second ≡ head ++ after → Follow x one other rest fore after
    → Follow x one other common first second
follow_line x one other head rest common fore first after second c u v (l, m, d, e, p) = (
  l,
  m,
  u ∙ ap (λ (y : List ℕ). head ++ y) d ∙ sym (append_assoc head rest l) ∙ ap (λ (y : List ℕ). y ++ l) (sym c),
  v ∙ ap (λ (y : List ℕ). head ++ y) e ∙ sym (append_assoc head rest m) ∙ ap (λ (y : List ℕ). y ++ m) (sym c),
  p,
)

module _ (z : Sizes) (rs ts : List Rec) (tail : List ℕ) (x : Settings) (q : Quiet x) (ds : Each (RecordsDiffer x) rs ts) (e : Ends tail) where
  abbrev Led : ℕ → ℕ → State → List Rec → Type 0
  Led limit index s before =
      Follow x (calls_of rs) (calls_of ts) (trace_from z limit index s (encoded_all before))
      (trace_from z limit index s (encoded_all before ++ (encoded_all rs ++ tail)))
      (trace_from z limit index s (encoded_all before ++ (encoded_all ts ++ tail)))

  led : (limit index : ℕ) (s : State) (before : List Rec) → (after z s (calls_of before)).settings ≡ x → Led limit index s before
  led zero index s [] h = (_, _, refl, refl, from_here z rs ts tail x q ds e zero index s h)
  led (suc limit) index s [] h =
      let none_yet : trace_from z (suc limit) index s [] ≡ [] = by_front z limit index s [] in
      (_, _, after_none _ _ none_yet, after_none _ _ none_yet, from_here z rs ts tail x q ds e (suc limit) index s h)
  led zero index s (r ∷ before) h = ([], [], sym (append-nil (full_line index)), sym (append-nil (full_line index)), ends)
  led (suc limit) index s (r ∷ before) h =
      follow_line x (calls_of rs) (calls_of ts) (line index r.kind (answered z s (meant r)).1) _ _ _ _ _ _
      (by_record z limit index s r (encoded_all before)) (by_records z limit index s r before (encoded_all rs ++ tail))
      (by_records z limit index s r before (encoded_all ts ++ tail))
      (led limit (suc index) (answered z s (meant r)).0 before (sym (ap (λ (t : State). t.settings) (answered_after z s (meant r) (calls_of before))) ∙ h))

-- DEMAND 3 of traces
pub demand_3_traces : Demand3Traces
demand_3_traces before rs ts tail q ds e = led base rs ts tail (settings_after before) q ds e 65535 0 fresh before refl
