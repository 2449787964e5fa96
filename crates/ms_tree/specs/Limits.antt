-- Refusing what passes a limit.
use Rattle.std.specs.Prelude.{ℕ, nat_lt, Result, Ok, Err, if◌then◌else◌}
use Rattle.ms_base.specs.declared.names.Quantity.{Quantity}
use Rattle.ms_tree.specs.declared.limits.FilesError.{FilesError}
use Rattle.ms_tree.specs.declared.limits.FilesError.TheVariants as errors

-- the value is refused where it is above its limit
abbrev pub within : Quantity → ℕ → ℕ → Result Unit FilesError
within what value most = if nat_lt most value then Err (errors.Limit what value) else Ok tt

-- on with the value, or the error
abbrev pub on_ok : {V W E : Type 0} → Result V E → (V → Result W E) → Result W E
on_ok (Ok v) next = next v
on_ok (Err e) next = Err e
