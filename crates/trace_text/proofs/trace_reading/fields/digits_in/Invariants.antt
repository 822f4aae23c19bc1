use Rattle.std.proofs.Common.{◌≡◌, take}
use Rattle.std.specs.Str.Parse.{AllDigits, digits_value}
use Rattle.trace_text.proofs.trace_reading.fields.digits_in.Given as goal

-- the digits so far, and the number that they spell
abbrev pub invariant-loop-byte : goal.invariant-loop-byte
invariant-loop-byte l = (l.count ≡ l.byte-index) × AllDigits 10 (take l.count l.field) × (l.number ≡ digits_value 10 (take l.count l.field))
