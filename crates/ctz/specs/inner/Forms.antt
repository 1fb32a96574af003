-- Records made of plain numbers, for laws and inner contracts that have those.
use Rattle.std.specs.Prelude.{ℕ}
use Rattle.ctz.specs.Lookup.{Pointers, Target, Stand}

-- block count, stored pointers
abbrev pub pointers_with : ℕ → (ℕ → ℕ → ℕ) → Pointers
pointers_with N ptr = record { N = N; stored = ptr }

-- index, offset
abbrev pub target : ℕ → ℕ → Target
target i off = record { index = i; offset = off }

-- index, block, hops
abbrev pub stand : ℕ → ℕ → ℕ → Stand
stand i k n = record { index = i; block = k; hops = n }
