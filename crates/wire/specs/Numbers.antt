-- Numbers as bytes: seven bits a byte, the lowest group first, the top bit set on all but the last.
use Rattle.std.specs.Prelude.{ℕ, zero, suc, ◌+◌, ◌/◌, ◌%◌, cond, List, [], ◌∷◌, nat_lt}

-- the largest number that a document may hold
abbrev pub largest : ℕ
largest = 4294967295

-- the groups of n, in at most so many bytes
unfoldable pub groups_of : ℕ → ℕ → List ℕ
groups_of zero n = []
groups_of (suc k) n = cond (nat_lt n 128) (n ∷ []) ((128 + n % 128) ∷ groups_of k (n / 128))

-- the writer: the bytes of a number up to the largest, of which there are at most five
unfoldable pub written : ℕ → List ℕ
written n = groups_of 5 n
