-- The valley's clock: moments of 64 bits, a second each.
use Rattle.std.specs.Prelude.{ℕ, ◌+◌, ◌^◌, cond, Some, None, Option, nat_lt}

abbrev pub next_moment : ℕ → Option ℕ
next_moment now = cond (nat_lt (now + 1) (2 ^ 64)) (Some (now + 1)) None
