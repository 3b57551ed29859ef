-- Values, their three types, and attribute entries.
use Rattle.std.specs.Prelude.{ℕ, Bool, true, false}
use Rattle.model.specs.Bytes.{Bytes}
use Rattle.model.specs.Names.{Name}

-- a value is a whole number (kept as z + 2^63), a text or a truth value
pub data Value : Type 0 where
  int : ℕ → Value
  str : Bytes → Value
  bool : Bool → Value

-- the types that declare values
pub data Kind : Type 0 where
  ints strs bools : Kind

-- an attribute with its value
pub record Entry : Type 0 where
  pub attr : Name
  pub value : Value

-- a value is of a declared type
unfoldable pub of_kind : Kind → Value → Bool
of_kind ints (int n) = true
of_kind ints (str t) = false
of_kind ints (bool x) = false
of_kind strs (int n) = false
of_kind strs (str t) = true
of_kind strs (bool x) = false
of_kind bools (int n) = false
of_kind bools (str t) = false
of_kind bools (bool x) = true
