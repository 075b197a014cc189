-- Document 01, 'Job control verdicts', and the foreground group.
use Rattle.std.specs.Prelude.{ℕ, Bool, true, false, not, ◌||◌, cond, ltb, eqb, Option, None, Some}
use Rattle.rules.specs.Types.{Process, OutOfRange, Verdict, Allowed, Eio, Ttin, Ttou, Ok, Judged, Group}
use Rattle.rules.specs.Sizes.{State, with_foreground}
use Rattle.rules.specs.Refusals.{Reply, says, refuses}

-- refusal 2: 'a group above 2,147,483,647'
abbrev pub too_large : ℕ → Bool
too_large group = ltb 2147483647 group

-- 'a foreground group: none, or a number 1..2,147,483,647 with an orphaned mark'; 0 sets none
abbrev pub group_on : Bool → ℕ → Bool → Option Group
group_on true group orphaned = None
group_on false group orphaned = Some (record { number = group; orphaned = orphaned })

abbrev pub foreground_on : Bool → State → ℕ → Bool → State × Reply
foreground_on true s group orphaned = refuses s OutOfRange
foreground_on false s group orphaned = (with_foreground s (group_on (eqb group 0) group orphaned), says Ok 0)

abbrev pub foreground : State → ℕ → Bool → State × Reply
foreground s group orphaned = foreground_on (too_large group) s group orphaned

-- 'in the foreground group'
abbrev pub in_foreground : Option Group → ℕ → Bool
in_foreground None group = false
in_foreground (Some g) group = eqb g.number group

-- 'Not the controlling terminal, or in the foreground group: allowed.' Here g is the foreground group.
abbrev pub free : Option Group → Process → Bool
free g p = not p.controlling || in_foreground g p.group

abbrev pub deaf : Process → Bool
deaf p = p.ignored || p.blocked

-- 'A background read: EIO if TTIN is ignored or blocked or the group is orphaned; else TTIN to the group.'
abbrev pub read_verdict : Option Group → Process → Verdict
read_verdict g p = cond (free g p) Allowed (cond (deaf p || p.orphaned) Eio Ttin)

-- 'A background write: allowed if TOSTOP is clear or TTOU ignored or blocked; else EIO if orphaned; else TTOU.'
abbrev pub write_verdict : Bool → Option Group → Process → Verdict
write_verdict tostop g p = cond (free g p || not tostop || deaf p) Allowed (cond p.orphaned Eio Ttou)

-- 'Changing settings: as a write with TOSTOP set.'
abbrev pub settings_verdict : Option Group → Process → Verdict
settings_verdict g p = write_verdict true g p

-- refusal 2: a group above 2,147,483,647, 'or a process group of 0 in a verdict'
abbrev pub judged_on : Bool → State → Verdict → State × Reply
judged_on true s v = refuses s OutOfRange
judged_on false s v = (s, says (Judged v) 0)

abbrev pub judged : State → Process → Verdict → State × Reply
judged s p v = judged_on (too_large p.group || eqb p.group 0) s v
