-- Document 01, 'Received events'.
use Rattle.std.specs.Prelude.{ℕ, ◌-◌, ◌%◌, Bool, true, false, not, ◌&&◌, ◌||◌, cond, List, [], ◌∷◌, eqb, Option, None, Some}
use Rattle.rules.specs.Types.{Settings, Event, Good, Parity, Framing, Break, Tick, Hangup, Signal, Int, Quit, Tstp, Hup, Outcome, Ok, Reports}
use Rattle.rules.specs.Types.{Group, Waiting, Idle, Untimed, Timed}
use Rattle.rules.specs.Sizes.{Sizes, Place, State, unit, delimiter, end_of_file, with_input, with_output, with_waiting, with_literal_next, with_stopped}
use Rattle.rules.specs.Settings.{is}
use Rattle.rules.specs.Flushing.{flush_both}
use Rattle.rules.specs.Editing.{Edit, erase, word_erase, kill, reprint, units, removed, edited}
use Rattle.rules.specs.Echo.{echo_of, stored_echo, edit_echo, shown}
use Rattle.rules.specs.Fit.{stores_unit, stores_end}

---- A good byte, stage one: steps 1 to 9 say what the byte means

-- What a good byte means, with what it shows by itself.
pub data Meaning : Type 0 where
  literal_next : Meaning
  signals : Signal → List ℕ → Meaning
  stops : Meaning
  starts : Meaning
  drops : Meaning
  edits : Edit → ℕ → Meaning  -- by this character
  ends : ℕ → List ℕ → Meaning  -- this byte, a delimiter
  marks : Meaning
  stores : ℕ → List ℕ → List ℕ → Meaning  -- a unit: its first byte, the further ones

-- 1. 'ISTRIP keeps the low seven bits.'
abbrev pub step1 : Settings → ℕ → ℕ
step1 x b = cond x.istrip (b % 128) b

-- 9. 'A 255 with PARMRK set, IGNPAR and ISTRIP clear is stored twice, echoed once.'
abbrev pub doubled : Settings → ℕ → List ℕ
doubled x b = cond (eqb b 255 && x.parmrk && not x.ignpar && not x.istrip) (255 ∷ []) []

abbrev pub plainly : Settings → ℕ → Meaning
plainly x b = stores b (doubled x b) (stored_echo x b)

-- 'Under ICANON a non-literal 10, EOL or EOL2 is stored and ends the line; a non-literal EOF stores a mark that ends it,
-- without echo.'
abbrev pub step9 : Settings → ℕ → Meaning
step9 x b =
    cond (x.icanon && (eqb b 10 || is b x.eol || is b x.eol2)) (ends b (stored_echo x b))
    (cond (x.icanon && is b x.eof) marks (plainly x b))

-- 8. 'ICANON: ERASE, WERASE, KILL, REPRINT edit and are consumed.'
abbrev pub step8 : Settings → ℕ → Meaning
step8 x b =
    cond (x.icanon && is b x.erase) (edits erase b)
    (cond (x.icanon && is b x.werase) (edits word_erase b)
    (cond (x.icanon && is b x.kill) (edits kill b)
    (cond (x.icanon && is b x.reprint) (edits reprint b) (step9 x b))))

-- 7. '13: IGNCR drops, else ICRNL makes it 10. A received 10 becomes 13 under INLCR. One mapping only.'
abbrev pub mapped : Settings → ℕ → ℕ
mapped x b = cond (eqb b 13 && x.icrnl) 10 (cond (eqb b 10 && x.inlcr) 13 b)

abbrev pub step7 : Settings → ℕ → Meaning
step7 x b = cond (eqb b 13 && x.igncr) drops (step8 x (mapped x b))

-- 6. 'IXON: STOP stops output, START resumes it. Consumed, no echo.'
abbrev pub step6 : Settings → ℕ → Meaning
step6 x b = cond (x.ixon && is b x.stop) stops (cond (x.ixon && is b x.start) starts (step7 x b))

-- 5. 'ISIG: INTR, QUIT, SUSP signal INT, QUIT, TSTP.'
abbrev pub step5 : Settings → ℕ → Meaning
step5 x b =
    cond (x.isig && is b x.intr) (signals Int (echo_of x b))
    (cond (x.isig && is b x.quit) (signals Quit (echo_of x b))
    (cond (x.isig && is b x.susp) (signals Tstp (echo_of x b)) (step6 x b)))

-- 4. 'IEXTEN and LNEXT: set "literal next". No echo.'
abbrev pub step4 : Settings → ℕ → Meaning
step4 x b = cond (x.iexten && is b x.lnext) literal_next (step5 x b)

-- 3. '"Literal next", if set, is cleared; the byte goes to step 9 as literal.'
abbrev pub step3 : Settings → Bool → ℕ → Meaning
step3 x true b = plainly x b
step3 x false b = step4 x b

---- Stage two: the meaning is carried out

-- 'INT, QUIT and TSTP go to the foreground group; with none, no signal is reported, nor TSTP for an orphaned group.'
-- 'HUP goes to the controlling process.'
abbrev pub reported : Signal → Option Group → Outcome
reported Int None = Ok
reported Int (Some g) = Reports Int
reported Quit None = Ok
reported Quit (Some g) = Reports Quit
reported Tstp None = Ok
reported Tstp (Some g) = cond g.orphaned Ok (Reports Tstp)
reported Hup g = Reports Hup

-- 'Both queues are flushed unless NOFLSH.'
abbrev pub flushed_unless : Bool → State → State
flushed_unless true s = s
flushed_unless false s = flush_both s

abbrev pub stopped_to : Bool → State → State
stopped_to t s = with_output s (with_stopped s.output t)

-- 'On an empty line ERASE, WERASE and KILL do and show nothing.' The units of the line.
abbrev pub edit_on : List (List Place) → Sizes → State → Edit → ℕ → State
edit_on [] z s erase b = s
edit_on [] z s word_erase b = s
edit_on [] z s kill b = s
edit_on [] z s reprint b = shown z s (edit_echo s.settings reprint b 0 [])
edit_on (u ∷ us) z s e b =
    shown z (with_input s (edited s.settings e s.input))
    (edit_echo s.settings e b (removed s.settings e (u ∷ us)) (u ∷ us))

abbrev pub carry : Sizes → State → Meaning → State × Outcome
carry z s literal_next = (with_input s (with_literal_next s.input true), Ok)
carry z s (signals g echo) = (shown z (flushed_unless s.settings.noflsh s) echo, reported g s.foreground)
carry z s stops = (stopped_to true s, Ok)
carry z s starts = (stopped_to false s, Ok)
carry z s drops = (s, Ok)
carry z s (edits e b) = (edit_on (units s.input.current) z s e b, Ok)
carry z s (ends b echo) = (stores_end z s (delimiter b) echo, Ok)
carry z s marks = (stores_end z s end_of_file [], Ok)
carry z s (stores b more echo) = (stores_unit z s (unit false b more) echo, Ok)

-- 2. 'IXON and IXANY: output resumes.'
abbrev pub step2 : State → State
step2 s = with_output s (with_stopped s.output (s.output.stopped && not (s.settings.ixon && s.settings.ixany)))

-- after step 1; 'literal next' is cleared by every good byte that does not set it
abbrev pub stripped : Sizes → State → ℕ → State × Outcome
stripped z s b =
    carry z (with_input (step2 s) (with_literal_next s.input false)) (step3 s.settings s.input.literal_next b)

abbrev pub good : Sizes → State → ℕ → State × Outcome
good z s b = stripped z s (step1 s.settings b)

---- The other events

-- 'These stored units are literal, have no echo and leave "literal next" as it is.'
abbrev pub silently : Sizes → State → ℕ → List ℕ → State × Outcome
silently z s b more = (stores_unit z s (unit true b more) [], Ok)

-- 'Break: IGNBRK, nothing. Else BRKINT, flush both and INT. Else PARMRK, store 255,0,0; else store 0.'
abbrev pub break_on : Bool → Bool → Bool → Sizes → State → State × Outcome
break_on true brkint parmrk z s = (s, Ok)
break_on false true parmrk z s = (flush_both s, reported Int s.foreground)
break_on false false true z s = silently z s 255 (0 ∷ 0 ∷ [])
break_on false false false z s = silently z s 0 []

-- 'IGNPAR drops; else PARMRK stores 255,0,X; else 0.'
abbrev pub broken_on : Bool → Bool → Sizes → State → ℕ → State × Outcome
broken_on true parmrk z s b = (s, Ok)
broken_on false true z s b = silently z s 255 (0 ∷ b ∷ [])
broken_on false false z s b = silently z s 0 []

abbrev pub broken : Sizes → State → ℕ → State × Outcome
broken z s b = broken_on s.settings.ignpar s.settings.parmrk z s b

-- 'Parity error with INPCK clear: a good byte.'
abbrev pub parity_on : Bool → Sizes → State → ℕ → State × Outcome
parity_on true z s b = broken z s b
parity_on false z s b = good z s b

-- 'Hangup: ignored under CLOCAL; else both queues are flushed, the port is hung up, HUP goes to the controlling process.'
abbrev pub hung_up : State → State
hung_up s =
    record {
      settings = s.settings;
      input = s.input;
      output = s.output;
      foreground = s.foreground;
      hung_up = true;
      waiting = s.waiting;
    }

abbrev pub hangup_on : Bool → State → State × Outcome
hangup_on true s = (s, Ok)
hangup_on false s = (hung_up (flush_both s), reported Hup s.foreground)

-- 'each tenth of a second lowers it by one'
abbrev pub lowered : Waiting → Waiting
lowered Idle = Idle
lowered (Untimed n) = Untimed n
lowered (Timed n t) = Timed n (record { left = t.left - 1 })

abbrev pub event : Sizes → State → Event → State × Outcome
event z s (Good b) = good z s b
event z s (Parity b) = parity_on s.settings.inpck z s b
event z s (Framing b) = broken z s b
event z s Break = break_on s.settings.ignbrk s.settings.brkint s.settings.parmrk z s
event z s Tick = (with_waiting s (lowered s.waiting), Ok)
event z s Hangup = hangup_on s.settings.clocal s

-- 'A hung-up port ignores them, ticks too.'
abbrev pub received_on : Bool → Sizes → State → Event → State × Outcome
received_on true z s e = (s, Ok)
received_on false z s e = event z s e

abbrev pub received : Sizes → State → Event → State × Outcome
received z s e = received_on s.hung_up z s e
