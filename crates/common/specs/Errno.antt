-- Document 01, "Numbers handed back".
use Rattle.std.specs.Prelude.{ℕ, Option, None, Some}
use Rattle.common.specs.declared.errno.Errno.{Errno}
use Rattle.common.specs.declared.errno.Errno.TheVariants.{Perm, NoEnt, TooBig, NoMem, Access, Busy, Invalid, BadLine, NoSpace, Domain}

-- a refusal's number
abbrev pub errno_number : Errno → ℕ
errno_number Perm = 1
errno_number NoEnt = 2
errno_number (TooBig length) = 7
errno_number NoMem = 12
errno_number Access = 13
errno_number Busy = 16
errno_number Invalid = 22
errno_number (BadLine line) = 22
errno_number NoSpace = 28
errno_number Domain = 33

-- the one more number, which only 7 and the table's 22 carry
abbrev pub detail_of : Errno → Option ℕ
detail_of Perm = None
detail_of NoEnt = None
detail_of (TooBig length) = Some length
detail_of NoMem = None
detail_of Access = None
detail_of Busy = None
detail_of Invalid = None
detail_of (BadLine line) = Some line
detail_of NoSpace = None
detail_of Domain = None
