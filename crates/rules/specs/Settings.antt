-- Document 01, 'Settings'.
use Rattle.std.specs.Prelude.{ℕ, Bool, true, false, not, ◌&&◌, ◌||◌, cond, List, [], ◌∷◌, ◌++◌, reverse, get_or, eqb}
use Rattle.rules.specs.Types.{Settings}
use Rattle.rules.specs.Sizes.{Place, Input, Output, State, fresh_with, with_stopped}

-- b is in the list
abbrev pub elem : ℕ → List ℕ → Bool
elem b [] = false
elem b (c ∷ cs) = eqb b c || elem b cs

-- 'Flags by bit, 0 to 31', then the values in the order of the special characters, MIN and TIME.
abbrev pub settings_of : (ℕ → Bool) → List ℕ → Settings
settings_of bit values =
    record {
      ignbrk = bit 0;
      brkint = bit 1;
      ignpar = bit 2;
      parmrk = bit 3;
      inpck = bit 4;
      istrip = bit 5;
      inlcr = bit 6;
      igncr = bit 7;
      icrnl = bit 8;
      ixon = bit 9;
      ixany = bit 10;
      imaxbel = bit 11;
      opost = bit 12;
      onlcr = bit 13;
      ocrnl = bit 14;
      tab3 = bit 15;
      onoeot = bit 16;
      onocr = bit 17;
      onlret = bit 18;
      clocal = bit 19;
      echo = bit 20;
      echoe = bit 21;
      echok = bit 22;
      echoke = bit 23;
      echonl = bit 24;
      echoctl = bit 25;
      isig = bit 26;
      icanon = bit 27;
      altwerase = bit 28;
      iexten = bit 29;
      tostop = bit 30;
      noflsh = bit 31;
      eof = get_or values 0 0;
      eol = get_or values 1 0;
      eol2 = get_or values 2 0;
      erase = get_or values 3 0;
      werase = get_or values 4 0;
      kill = get_or values 5 0;
      reprint = get_or values 6 0;
      intr = get_or values 7 0;
      quit = get_or values 8 0;
      susp = get_or values 9 0;
      start = get_or values 10 0;
      stop = get_or values 11 0;
      lnext = get_or values 12 0;
      min = get_or values 13 0;
      time = get_or values 14 0;
    }

-- 'EOF 4, EOL 255, EOL2 255, ERASE 127, WERASE 23, KILL 21, REPRINT 18, INTR 3, QUIT 28, SUSP 26, START 17, STOP 19,
-- LNEXT 22; then MIN 1, TIME 0.'
abbrev pub default_values : List ℕ
default_values =
    4 ∷ 255 ∷ 255 ∷ 127 ∷ 23 ∷ 21 ∷ 18 ∷ 3 ∷ 28 ∷ 26 ∷ 17 ∷ 19 ∷ 22 ∷ 1 ∷ 0 ∷ []

-- 'Flags set by default: BRKINT ICRNL IXON IMAXBEL OPOST ONLCR ECHO ECHOE ECHOKE ECHOCTL ISIG ICANON IEXTEN', by their bits.
abbrev pub default_flags : List ℕ
default_flags = 1 ∷ 8 ∷ 9 ∷ 11 ∷ 12 ∷ 13 ∷ 20 ∷ 21 ∷ 23 ∷ 25 ∷ 26 ∷ 27 ∷ 29 ∷ []

abbrev pub defaults : Settings
defaults = settings_of (λ i. elem i default_flags) default_values

abbrev pub fresh : State
fresh = fresh_with defaults

-- 'The special characters .. stand in this order.'
abbrev pub characters : Settings → List ℕ
characters x =
    x.eof ∷ x.eol ∷ x.eol2 ∷ x.erase ∷ x.werase ∷ x.kill ∷ x.reprint ∷ x.intr ∷ x.quit ∷ x.susp ∷ x.start ∷ x.stop ∷ x.lnext ∷ []

-- 'The value 255 disables a special character; 0 is a real character.'
abbrev pub enabled : ℕ → Bool
enabled c = not (eqb c 255)

-- b is the special character c, and c is enabled
abbrev pub is : ℕ → ℕ → Bool
is b c = eqb b c && enabled c

abbrev pub enabled_of : List ℕ → List ℕ
enabled_of [] = []
enabled_of (c ∷ cs) = cond (enabled c) (c ∷ enabled_of cs) (enabled_of cs)

abbrev pub distinct : List ℕ → Bool
distinct [] = true
distinct (c ∷ cs) = not (elem c cs) && distinct cs

-- Not 'settings where two enabled special characters are equal, or one is 10 or 13'.
abbrev pub acceptable : Settings → Bool
acceptable x =
    distinct (enabled_of (characters x))
    && not (elem 10 (enabled_of (characters x)))
    && not (elem 13 (enabled_of (characters x)))

---- 'New settings'

-- 'end-of-file marks vanish'
abbrev pub without_marks : List Place → List Place
without_marks [] = []
without_marks (p ∷ ps) = cond p.mark (without_marks ps) (p ∷ without_marks ps)

-- 'become one finished line with no delimiter': the line ends with its last byte
abbrev pub ends_here : Bool → Place → Place
ends_here e p = record { byte = p.byte; starts = p.starts; ends = e; mark = false; silent = p.silent }

abbrev pub one_line : List Place → List Place
one_line [] = []
one_line (p ∷ []) = ends_here true p ∷ []
one_line (p ∷ q ∷ ps) = ends_here false p ∷ one_line (q ∷ ps)

-- all that is stored, oldest first
abbrev pub stored : Input → List Place
stored i = i.finished ++ reverse i.current

-- 'if ICANON goes off, all stored bytes become readable and end-of-file marks vanish. If it goes on, the stored bytes,
-- if any, become one finished line with no delimiter.' ICANON before, ICANON after.
abbrev pub changed_input : Bool → Bool → Input → Input
changed_input true true i = i
changed_input true false i =
    record { finished = without_marks (stored i); current = []; literal_next = i.literal_next }
changed_input false true i = record { finished = one_line (stored i); current = []; literal_next = i.literal_next }
changed_input false false i = i

-- 'If IXON goes off, output resumes.'
abbrev pub changed_output : Settings → Settings → Output → Output
changed_output old new o = with_stopped o (o.stopped && not (old.ixon && not new.ixon))

-- 'Nothing else changes.'
abbrev pub changed : State → Settings → State
changed s x =
    record {
      settings = x;
      input = changed_input s.settings.icanon x.icanon s.input;
      output = changed_output s.settings x s.output;
      foreground = s.foreground;
      hung_up = s.hung_up;
      waiting = s.waiting;
    }
