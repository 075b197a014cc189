-- What the promise is worth: no second answer meets it. Assumes nothing.
use Rattle.std.specs.Prelude.{ℕ, Option}
use mathlib.Core.Path.{◌≡◌, sym, ◌∙◌}
use mathlib.Core.List.{List}
use Rattle.records.specs.Records.{Decodes}
use Rattle.records.specs.declared.Asked.{Asked}

pub decode_unique : {kind : ℕ} {body : List ℕ} (r q : Option Asked) → Decodes kind body r → Decodes kind body q → r ≡ q
decode_unique r q a b = a.tells ∙ sym b.tells
