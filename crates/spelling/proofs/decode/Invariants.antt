-- `spelling::decode`: after n turns n bytes are decoded, and the digits that are left stand untouched.
use Rattle.spelling.proofs.Lines.{Decoded}
use Rattle.spelling.proofs.decode.Given as goal

abbrev pub invariant-loop-n : goal.invariant-loop-n
invariant-loop-n l = Decoded l.initial.line l.line l.n
