-- What a name stands for, for functions that are not public.
use Rattle.std.specs.Prelude.{not, List, ℕ}
use Rattle.common.specs.Answer.{Answer, and_then, granted, require}
use Rattle.label.specs.Words.{includes_of, single_of, union_of}
use Rattle.alias_entry.specs.declared.Entry.{Entry}
use Rattle.alias_entry.specs.declared.Value.{Value}
use Rattle.text.specs.Read.{category_named, entry_named}

unfoldable pub value_named : List Entry → List ℕ → Answer Value
value_named es text = and_then (entry_named es text) (λ (e : Entry). granted e.value)

-- a set with the category that a name stands for, which it must not have yet
unfoldable pub added_to : List Entry → List ℕ → List ℕ → Answer (List ℕ)
added_to es ws name =
    and_then (category_named es name) (λ (c : ℕ). require (not (includes_of ws (single_of c))) 22 (granted (union_of ws (single_of c))))
