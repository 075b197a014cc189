-- One lemma for each way out of the functions. Assumes nothing.
use mathlib.Core.Path.{◌≡◌, refl, sym, ap, subst, ◌∙◌}
use mathlib.Core.Bool.{Bool, true, false}
use mathlib.Core.List.{List, [], ◌++◌}
use Prim.Native.Nat.{ℕ}
use lib.ListN.{length, take, drop}
use lib.Seq.{take_at, drop_at}
use Rattle.rules.specs.declared.Call.TheVariants.{Set}
use Rattle.rules.specs.declared.Outcome.TheVariants.{Ok, Refused}
use Rattle.rules.specs.declared.Refusal.TheVariants.{ReadWaits, BadSettings}
use Rattle.rules.specs.declared.Settings.{Settings}
use Rattle.rules.specs.Sizes.{State}
use Rattle.rules.specs.Refusals.{Reply}
use Rattle.rules.specs.Settings.{acceptable}
use Rattle.rules.specs.Step.{a_read_waits, set_on}
use Rattle.input.specs.declared.Input.{Input}
use Rattle.input.specs.Contract.{fitted}
use Rattle.output.specs.declared.Output.{Output}
use Rattle.port.specs.State.{capacity, place_bytes, place_marks, get}
use Rattle.port.specs.declared.Port.{Port}
use Rattle.port.specs.declared.Answered.{Answered}
use Rattle.port.specs.Calls.{step_of}
use Rattle.port.proofs.Calls.{bytes_long, marks_long}
use Rattle.discipline.specs.changes.Contract.{Changes, resumed, with_settings, Changed, Sets}

module _ (p : Port) (bs ms : List ℕ) where
  module _ (x : Settings) (a : Answered) (t : Bool) (et : t ≡ a_read_waits p.waiting) where
    abbrev s : State
    s = get p bs ms []

    -- the two tests
    tested : (u v : Bool) → t ≡ u → acceptable x ≡ v → set_on u v s x ≡ step_of p bs ms [] (Set x) []
    unfolding get
    tested u v e f = sym (ap (λ (y : Bool). set_on y (acceptable x) s x) (sym et ∙ e) ∙ ap (λ (y : Bool). set_on u y s x) f)

    sets_as : (bs' ms' : List ℕ) (v w : State × Reply) → v ≡ w → Sets p bs ms x v a bs' ms' → Sets p bs ms x w a bs' ms'
    sets_as bs' ms' v w e h = subst (λ (y : State × Reply). Sets p bs ms x y a bs' ms') e h

    pub set_waits : t ≡ true → a ≡ record { port = p; answer = record { outcome = Refused ReadWaits; count = 0 } }
        → Sets p bs ms x (step_of p bs ms [] (Set x) []) a bs ms
    set_waits e ea =
        sets_as bs ms (set_on true (acceptable x) s x) (step_of p bs ms [] (Set x) []) (tested true (acceptable x) e refl)
        (subst (λ (y : Answered). Sets p bs ms x (set_on true (acceptable x) s x) y bs ms) (sym ea) (record { answer = refl; leaves = (refl, refl, refl) }))

    module _ (g : Bool) (eg : g ≡ acceptable x) where
      pub set_bad : t ≡ false → g ≡ false → a ≡ record { port = p; answer = record { outcome = Refused BadSettings; count = 0 } }
          → Sets p bs ms x (step_of p bs ms [] (Set x) []) a bs ms
      set_bad e f ea =
          sets_as bs ms (set_on false false s x) (step_of p bs ms [] (Set x) []) (tested false false e (sym eg ∙ f))
          (subst (λ (y : Answered). Sets p bs ms x (set_on false false s x) y bs ms) (sym ea) (record { answer = refl; leaves = (refl, refl, refl) }))

      pub set_good : (f i : Input) (o : Output) (q : Port) (n : ℕ) (cs ns : List ℕ) → t ≡ false → g ≡ true → n ≡ capacity bs ms → f ≡ fitted n p.input
          → length cs ≡ length (take n bs) → length ns ≡ length (take n ms)
          → Changes p.settings.icanon x.icanon f (take n bs) (take n ms) i cs ns
          → o ≡ resumed p.settings.ixon x.ixon p.output → q ≡ with_settings p x i o
          → a ≡ record { port = q; answer = record { outcome = Ok; count = 0 } }
          → Sets p bs ms x (step_of p bs ms [] (Set x) []) a (cs ++ drop n bs) (ns ++ drop n ms)
      set_good f i o q n cs ns e eg' en ef lc ln h eo eq ea =
          subst (λ (k : ℕ). Sets p bs ms x (step_of p bs ms [] (Set x) []) a (cs ++ drop k bs) (ns ++ drop k ms)) (sym en)
          (sets_as (cs ++ drop N bs) (ns ++ drop N ms) (set_on false true s x) (step_of p bs ms [] (Set x) []) (tested false true e (sym eg ∙ eg'))
          (subst (λ (y : Answered). Sets p bs ms x (set_on false true s x) y (cs ++ drop N bs) (ns ++ drop N ms)) (sym ea)
          (record {
            answer = refl;
            leaves = subst (λ (y : Port). Changed p bs ms x y (cs ++ drop N bs) (ns ++ drop N ms)) (sym whole) from;
          })))
        where
          N : ℕ
          N = capacity bs ms

          whole : q ≡ with_settings p x i (resumed p.settings.ixon x.ixon p.output)
          whole = eq ∙ ap (with_settings p x i) eo

          long : length cs ≡ N
          long = subst (λ (k : ℕ). length cs ≡ length (take k bs)) en lc ∙ bytes_long bs ms

          wide : length ns ≡ N
          wide = subst (λ (k : ℕ). length ns ≡ length (take k ms)) en ln ∙ marks_long bs ms

          there : Changes p.settings.icanon x.icanon (fitted N p.input) (place_bytes bs ms) (place_marks bs ms) i cs ns
          there =
              subst (λ (k : ℕ). Changes p.settings.icanon x.icanon (fitted k p.input) (take k bs) (take k ms) i cs ns) en
              (subst (λ (y : Input). Changes p.settings.icanon x.icanon y (take n bs) (take n ms) i cs ns) ef h)

          from : Changed p bs ms x (with_settings p x i (resumed p.settings.ixon x.ixon p.output)) (cs ++ drop N bs) (ns ++ drop N ms)
          from =
              record {
                port = refl;
                input =
                    subst (λ (y : List ℕ). Changes p.settings.icanon x.icanon (fitted N p.input) (place_bytes bs ms) (place_marks bs ms) i y
                    (take N (ns ++ drop N ms)))
                    (sym (take_at cs (drop N bs) N long))
                    (subst (λ (y : List ℕ). Changes p.settings.icanon x.icanon (fitted N p.input) (place_bytes bs ms) (place_marks bs ms) i cs y)
                    (sym (take_at ns (drop N ms) N wide)) there);
                bytes = drop_at cs (drop N bs) N long;
                marks = drop_at ns (drop N ms) N wide;
              }
