-- How old a time is now, and the limits of document 01 that are multiples of the timeout T.
use Rattle.std.specs.Prelude.{ℕ, ◌-◌, ◌*◌, max, Bool, ltb}

-- how long ago t was; what is still to come is 0 old
abbrev pub age : ℕ → ℕ → ℕ
age now t = now - t

-- more than 2T old (FAIL that a pong clears; a report past signalling)
abbrev pub over_twice : ℕ → ℕ → Bool
over_twice timeout old = ltb (2 * timeout) old

-- less than 2T old (16: a vote for one of its replicas)
abbrev pub under_twice : ℕ → ℕ → Bool
under_twice timeout old = ltb old (2 * timeout)

-- 35: longer ago than the greater of 2T and 2,000 ms
abbrev pub ack_too_late : ℕ → ℕ → Bool
ack_too_late timeout old = ltb (max (2 * timeout) 2000) old

-- 28: younger than the greater of 4T and 4,000 ms
abbrev pub opening_young : ℕ → ℕ → Bool
opening_young timeout old = ltb old (max (4 * timeout) 4000)
