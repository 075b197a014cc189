-- `discipline::sending::write_through` meets its contract. Assumes nothing.
use lib.ListN.{length-drop, length, drop}
use Rattle.port.specs.Sending.{result, after_write, Outcomes}
use Rattle.discipline.proofs.sending.Laws.{rest_of, count_le, through_of, size_written}
use Prim.Native.Nat.{◌+◌}
use native.Mathlib.Omega.{arith}
use mathlib.Core.Path.{◌≡◌, ap, ap₂, ◌∙◌}
use Rattle.discipline.proofs.sending.write_through.Goals as goal

pub slice_bounds-write-count : goal.slice_bounds-write-count
slice_bounds-write-count c =
    let w = c.write-first in
    let t = c.taken-n in
    omega (arith, t.ensures, ap (λ (y : Outcomes). y.answer.count) w.ensures, count_le c.args.p c.args.out.now c.args.src.now)

pub slice_bounds-write-start : goal.slice_bounds-write-start
slice_bounds-write-start c =
    let w = c.write-first in
    let t = c.taken-n in
    omega (arith, t.ensures, ap (λ (y : Outcomes). y.answer.count) w.ensures, count_le c.args.p c.args.out.now c.args.src.now)

pub overflow_add-result : goal.overflow_add-result
overflow_add-result c =
    let w = c.write-rest in
    let b = c.transmit-sent in
    let t = c.taken-n in
    let a = c.write-first in
    let src = c.args.src.now in
    let m = a.new.out in
    let g : result w.result w.new.out (drop a.result.answer.count src) ≡ after_write b.result.port m (drop a.result.answer.count src) =
    rest_of w.result w.new.out b.result.port m src t.result a.result.answer.count t.ensures w.ensures in
    omega (
      arith,
      t.ensures,
      c.taken.ensures,
      ap (λ (y : Outcomes). y.answer.count) g,
      count_le b.result.port m (drop a.result.answer.count src),
      length-drop a.result.answer.count src,
      ap (λ (y : Outcomes). y.answer.count) a.ensures,
      count_le c.args.p c.args.out.now src,
    )

pub shape_of-out : goal.shape_of-out
shape_of-out c =
    let w = c.write-rest in
    let b = c.transmit-sent in
    let t = c.taken-n in
    let a = c.write-first in
    let src = c.args.src.now in
    let m = a.new.out in
    let g : result w.result w.new.out (drop a.result.answer.count src) ≡ after_write b.result.port m (drop a.result.answer.count src) =
    rest_of w.result w.new.out b.result.port m src t.result a.result.answer.count t.ensures w.ensures in
    ap (λ (y : Outcomes). length y.slice) g ∙ size_written b.result.port m (drop a.result.answer.count src)
    ∙ ap (λ (y : Outcomes). length y.slice) a.ensures ∙ size_written c.args.p c.args.out.now src

pub returns : goal.returns
returns c =
    let w = c.write-rest in
    let at-taken2 = c.taken-2 in
    let b = c.transmit-sent in
    let t = c.taken-n in
    let a = c.write-first in
    let src = c.args.src.now in
    let m = a.new.out in
    let g : result w.result w.new.out (drop a.result.answer.count src) ≡ after_write b.result.port m (drop a.result.answer.count src) =
    rest_of w.result w.new.out b.result.port m src t.result a.result.answer.count t.ensures w.ensures in
    let all = through_of c.args.p c.args.out.now src c.args.dst.now b.new.dst m w.new.out a.result b.result
    w.result a.ensures b.ensures g in
    record {
      port = all.port;
      slice = all.slice;
      buffer = all.buffer;
      written = ap₂ ◌+◌ t.ensures c.taken.ensures ∙ all.written;
      given = at-taken2.ensures ∙ all.given;
    }
