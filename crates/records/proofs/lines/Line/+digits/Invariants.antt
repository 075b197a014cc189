-- It calls itself for all digits but the last, with one digit fewer to write.
use Rattle.records.proofs.lines.Line.+digits.Given as goal

abbrev pub decreases-digits : goal.decreases-digits
decreases-digits l = l.most
