-- What a text is asked with, as C has it.
use Rattle.std.specs.Prelude.{Bool, ◌&&◌, ℕ}
use Rattle.abi.specs.Caller.{caller_formed}
use Rattle.abi.specs.Flag
use Rattle.abi.specs.Style.{formed_of}
use Rattle.abi.specs.declared.caller.CCaller.{CCaller}
use Rattle.abi.specs.declared.style.CStyle.{CStyle}

-- the flags that every text is asked with are flags
abbrev pub ask_formed : ℕ → CCaller → Bool
ask_formed more c = Flag.formed_of more && caller_formed c

-- and the style is one
abbrev pub write_formed : ℕ → CCaller → CStyle → Bool
write_formed more c x = ask_formed more c && formed_of x
