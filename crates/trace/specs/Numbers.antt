-- The numbers of document 01, 'The trace program'.
use Rattle.std.specs.Prelude.{ℕ}

-- 'two-byte length of the body, two-byte kind'
abbrev pub header : ℕ
header = 4

-- A body of more than 512 bytes is malformed whatever it holds, so 513 of them are enough.
abbrev pub most_body : ℕ
most_body = 513

-- header and body as far as they are kept
abbrev pub most_kept : ℕ
most_kept = 517

-- header and the longest body
abbrev pub most_size : ℕ
most_size = 65539

-- 'At most 65,535 records are read'
abbrev pub most_records : ℕ
most_records = 65535

-- no call is lent more bytes than a transmit
abbrev pub most_lent : ℕ
most_lent = 2048

-- no line is longer: three numbers of 5 digits, `allowed`, 2,048 bytes in hex, four spaces, a newline
abbrev pub most_line : ℕ
most_line = 4123
