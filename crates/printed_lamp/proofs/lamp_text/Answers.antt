-- `lamp_text` meets its contract: yes, no or the refusal is put.
use mathlib.Core.Path.{◌≡◌}
use Rattle.std.specs.Prelude.{true, false, Ok}
use Rattle.printed_lamp.proofs.LampTextLaws.{yes_printed, no_printed, refusal_printed}
use borrow.Author.Rules.{rules}
use Rattle.printed_lamp.proofs.lamp_text.Goals as goal

pub returns-in-Ok-true : goal.returns-in-Ok-true
returns-in-Ok-true c =
    let e : c.lamp.result ≡ Ok true = search rules in
    let p = yes_printed _ _ _ _ _ _ _ c.lamp.ensures (search rules) _ _ _ e c.put_bytes.ensures in
    record { printed = p.0; short = p.1 }

pub returns-in-Ok-false : goal.returns-in-Ok-false
returns-in-Ok-false c =
    let e : c.lamp.result ≡ Ok false = search rules in
    let p = no_printed _ _ _ _ _ _ _ c.lamp.ensures (search rules) _ _ _ e c.put_bytes-in-Ok-false.ensures in
    record { printed = p.0; short = p.1 }

pub returns-in-Err : goal.returns-in-Err
returns-in-Err c =
    let p = refusal_printed _ _ _ _ _ _ _ c.lamp.ensures (search rules) _ _ _ _ c.in-Err.is c.put_refusal.ensures in
    record { printed = p.0; short = p.1 }
