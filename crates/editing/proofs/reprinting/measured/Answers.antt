-- `editing::reprinting::measured` meets its contract. Assumes nothing.
use Rattle.std.specs.Prelude.{Some}
use Rattle.rules.specs.Echo.{visible}
use Rattle.echo.proofs.Laws.{extends_as}
use Rattle.editing.specs.reprinting.Contract.{place_echo}
use Rattle.editing.proofs.reprinting.Laws.{place_seen}
use Rattle.editing.proofs.reprinting.measured.Goals as goal

pub returns-then-is_shown : goal.returns-then-is_shown
returns-then-is_shown c =
    let v = c.at in
    let at-if1 = c.if-is_shown in
    let t = c.is_shown in
    let a = c.args in
    let n = a.places.now in
    extends_as a.x (Some a.measure) c.measured.result (visible a.x v.result) (place_echo a.x n.input n.bytes.now n.marks.now a.k)
    (place_seen a.x n.input n.bytes.now n.marks.now a.k t.result t.ensures v.result at-if1.true v.ensures) c.measured.ensures
