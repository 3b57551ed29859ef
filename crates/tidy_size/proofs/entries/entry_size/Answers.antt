-- `tidy_size::entries::entry_size` meets its contract. Assumes nothing.
use Rattle.tidy_size.proofs.ValueLaws.{entry_size}
use Rattle.tidy_size.proofs.entries.entry_size.Goals as goal

pub returns : goal.returns
returns c =
    let a = c.args in
    entry_size a.words.now a.entry a.name _ _ c.name_size.ensures c.value_size.ensures
