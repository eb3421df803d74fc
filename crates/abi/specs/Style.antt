-- How a text is written, as C has it: by the numbers of a form and a variant.
use Rattle.std.specs.Prelude.{Bool, is_some, unwrap_or}
use Rattle.text.specs.Numbers.{style_named}
use Rattle.text.specs.declared.Form.TheVariants.{Definition}
use Rattle.text.specs.declared.Style as core_style
use Rattle.text.specs.declared.Variant.TheVariants.{Names}
use Rattle.abi.specs.declared.style.CStyle.{CStyle}

abbrev pub formed_of : CStyle → Bool
formed_of s = is_some (style_named s.form s.variant)

-- the style of the numbers; of numbers that name none, that of the number 0
abbrev pub style_of : CStyle → core_style.Style
style_of s = unwrap_or (style_named s.form s.variant) (record { form = Definition; variant = Names })
