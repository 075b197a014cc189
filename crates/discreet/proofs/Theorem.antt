-- Demand 3 of the port follows from that of the rules, since what the callers of `step` see is the rules' run. Assumes nothing.
use Prim.Native.Nat.{ℕ, suc}
use mathlib.Core.Path.{◌≡◌, refl, sym, ap, ap₂, subst, ◌∙◌}
use mathlib.Core.List.{List, [], ◌∷◌, ◌++◌}
use lib.ListN.{length, drop}
use Rattle.rules.specs.declared.Call.{Call}
use Rattle.rules.specs.declared.Settings.{Settings}
use Rattle.rules.specs.Sizes.{Sizes, State}
use Rattle.rules.specs.Refusals.{Reply, handed, lent_after}
use Rattle.rules.specs.Step.{Asked, step_of, run}
use Rattle.secrecy.specs.Statement.{Each, none, more, NoRead, Brings, good, parity, MayDiffer, same, differ, Delivered, Alike}
use Rattle.secrecy.proofs.Theorem.{secrecy}
use Rattle.secrecy.proofs.Given.{none_given, same_delivered}
use Rattle.port.specs.State.{sizes, get}
use Rattle.discipline.specs.Demand2.{Seen, seen_of}
use Rattle.discipline.proofs.Demand2.{makes_run}
use Rattle.discreet.specs.Statement.{SeenAlike, EachCall, no_call, a_call, LentAlike, Demand3}

each_append : {A : Type 0} {R : A → A → Type 0} {a b c d : List A} → Each R a b → Each R c d → Each R (a ++ c) (b ++ d)
each_append none f = f
each_append (more r e) f = more r (each_append e f)

each_length : {A : Type 0} {R : A → A → Type 0} {a b : List A} → Each R a b → length a ≡ length b
each_length none = refl
each_length (more r e) = ap suc (each_length e)

---- A call that is no read in one run is none in the other

brings_no_read : (x : Settings) {c : Call} {n : ℕ} → Brings x c n → NoRead c
brings_no_read x (good p) = tt
brings_no_read x (parity i p) = tt

no_read : (x : Settings) (a b : Asked) → MayDiffer x a b → NoRead a.call → NoRead b.call
no_read x a b (same e k) h = subst (λ (c : Asked). NoRead c.call) e h
no_read x a b (differ m n p q) h = brings_no_read x q

-- the buffer after two replies that hand out the same
lent_same : (l m : List ℕ) (r t : Reply) → l ≡ m → r.sent ≡ t.sent → r.given ≡ t.given → lent_after l r ≡ lent_after m t
lent_same l m r t e s g = ap₂ (λ (h k : List ℕ). h ++ drop (length h) k) (ap₂ (λ (h k : List ℕ). h ++ k) s g) e

---- Replies that are alike show buffers that are alike

module _ (x : Settings) (one other : List Asked) where
  each_equal : (l m : List ℕ) → l ≡ m → Each (Delivered x one other) l m
  each_equal l m e = subst (λ (y : List ℕ). Each (Delivered x one other) l y) e (same_delivered x one other l)

  -- the buffer after two replies that are alike
  lent_alike : (l m : List ℕ) (r t : Reply) → l ≡ m → Alike x one other r t → Each (Delivered x one other) (lent_after l r) (lent_after m t)
  lent_alike l m r t e a =
      let h : Each (Delivered x one other) (handed r) (handed t) = each_append (each_equal r.sent t.sent a.sent) a.given in
      each_append h
      (each_equal (drop (length (handed r)) l) (drop (length (handed t)) m) (ap₂ (λ (n : ℕ) (y : List ℕ). drop n y) (each_length h) e))

  -- what two calls show, the states in which they are made being any
  module _ (z : Sizes) (s t : State) (a b : Asked) where
    others_same : MayDiffer x a b → a.lent ≡ b.lent → Alike x one other (step_of z s a).1 (step_of z t b).1 → NoRead a.call
        → lent_after a.lent (step_of z s a).1 ≡ lent_after b.lent (step_of z t b).1
    others_same d e h k =
        lent_same a.lent b.lent (step_of z s a).1 (step_of z t b).1 e h.sent
        (none_given s z a.call a.lent k ∙ sym (none_given t z b.call b.lent (no_read x a b d k)))

  seen_alike : (z : Sizes) (s t : State) (cs bs : List Asked) → Each (MayDiffer x) cs bs → Each LentAlike cs bs
      → Each (Alike x one other) (run z s cs) (run z t bs) → EachCall (SeenAlike x one other) cs (seen_of cs (run z s cs)) (seen_of bs (run z t bs))
  seen_alike z s t [] [] none none none = no_call
  seen_alike z s t [] (b ∷ bs) d _ _ = elim d [ ]
  seen_alike z s t (a ∷ cs) [] d _ _ = elim d [ ]
  seen_alike z s t (a ∷ cs) (b ∷ bs) (more d ds) (more l e) (more h f) =
      a_call
      (record {
        answer = h.answer;
        lent = lent_alike a.lent b.lent (step_of z s a).1 (step_of z t b).1 l h;
        others = others_same z s t a b d l h;
      })
      (seen_alike z (step_of z s a).0 (step_of z t b).0 cs bs ds e f)

pub demand_3 : Demand3
unfolding get
demand_3 p bs ms os one other seen read q ds ls m n =
    let z : Sizes = sizes p bs ms os in
    let s : State = get p bs ms os in
    let alike : EachCall (SeenAlike p.settings one other) one (seen_of one (run z s one)) (seen_of other (run z s other)) =
    seen_alike p.settings one other z s s one other ds ls (secrecy z s one other q ds) in
    subst (λ (y : List Seen). EachCall (SeenAlike p.settings one other) one y read) (sym (makes_run one seen p bs ms os m))
    (subst (λ (y : List Seen). EachCall (SeenAlike p.settings one other) one (seen_of one (run z s one)) y) (sym (makes_run other read p bs ms os n)) alike)
