-- Forms and variants by their numbers, as programs and C have them.
use Rattle.std.specs.Prelude.{cond, ℕ, eqb, Option, None, Some, option_and_then, option_map}
use Rattle.text.specs.declared.Form.{Form}
use Rattle.text.specs.declared.Form.TheVariants.{Definition, Alias}
use Rattle.text.specs.declared.Style.{Style}
use Rattle.text.specs.declared.Variant.{Variant}
use Rattle.text.specs.declared.Variant.TheVariants.{Names, Abbreviations}

-- a form's number: 0 definition, 1 alias
unfoldable pub form_named : ℕ → Option Form
form_named f = cond (eqb f 0) (Some Definition) (cond (eqb f 1) (Some Alias) None)

-- a variant's number: 0 names, 1 abbreviations
unfoldable pub variant_named : ℕ → Option Variant
variant_named v = cond (eqb v 0) (Some Names) (cond (eqb v 1) (Some Abbreviations) None)

-- what two numbers name: a form and a variant, where each names one
unfoldable pub style_named : ℕ → ℕ → Option Style
style_named f v = option_and_then (λ form. option_map (λ variant. record { form = form; variant = variant }) (variant_named v)) (form_named f)
