-- What the comparison of two texts answers, and bytes compared in rows.
use Rattle.std.specs.Prelude.{ℕ, zero, suc, ◌+◌, Bool, ◌&&◌, ◌||◌, get_or, eqb}
use Rattle.model.specs.Bytes.{Bytes}
use Rattle.model.specs.TextOrder.{Order, less, equal, greater}
use Rattle.std.specs.declared.cmp.Ordering.{Ordering}
use Rattle.std.specs.declared.cmp.Ordering.TheVariants.{Less, Equal, Greater}

-- the order that each answer of the comparison is
unfoldable pub order_of : Ordering → Order
order_of Less = less
order_of Equal = equal
order_of Greater = greater

-- two texts have the same byte at a place and at the n places behind it
abbrev pub same_near : Bytes → Bytes → ℕ → ℕ → Bool
same_near a b i zero = eqb (get_or a i 0) (get_or b i 0)
same_near a b i (suc n) = same_near a b i n && eqb (get_or a (i + suc n) 0) (get_or b (i + suc n) 0)

-- one of the six words that are never names begins with a byte: M, W, A, R, t or f
unfoldable pub begins_one_of_six : ℕ → Bool
begins_one_of_six b = eqb b 77 || eqb b 87 || eqb b 65 || eqb b 82 || eqb b 116 || eqb b 102
