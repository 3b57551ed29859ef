-- Parts of a text: its names and values, by start and length.
use Rattle.std.specs.Prelude.{◌+◌, ◌≤◌, length}
use Rattle.model.specs.Bytes.{Bytes}
use Rattle.model.specs.declared.Part.{Part}

-- a text has a part: it ends inside the text
abbrev pub HasPart : Bytes → Part → Type 0
HasPart s p = p.start + p.length ≤ length s
