-- Each arm has told the class: a hierarchy and a category that fit are one byte; a label has its own bytes. There is room for them.
use native.Mathlib.Omega.{arith}
use Rattle.octets.proofs.ByteLaws.{appended_put}
use Rattle.label_codec.specs.Codec.{label_code}
use Rattle.alias_entry.specs.Entry.{value_bytes}
use Rattle.alias_entry.proofs.EntryLaws.{category_fits, hierarchy_fits}
use Rattle.alias_entry.proofs.Value.put.Goals as goal

pub overflow_cast-h : goal.overflow_cast-h
overflow_cast-h c = record { fits = omega (arith, hierarchy_fits _ c.args.l _ c.in-Hierarchy.is c.requires.1) }

pub returns-in-Hierarchy : goal.returns-in-Hierarchy
unfolding value_bytes
returns-in-Hierarchy c = rw c.in-Hierarchy.is (appended_put (rw c.in-Hierarchy.is at c.requires.0) c.append_byte.ensures)

pub overflow_cast-c : goal.overflow_cast-c
overflow_cast-c c = record { fits = omega (arith, category_fits _ c.args.l _ c.in-Category.is c.requires.1) }

pub returns-in-Category : goal.returns-in-Category
unfolding value_bytes
returns-in-Category c = rw c.in-Category.is (appended_put (rw c.in-Category.is at c.requires.0) c.append_byte-in-Category.ensures)

pub returns-in-WholeLabel : goal.returns-in-WholeLabel
unfolding value_bytes label_code
returns-in-WholeLabel c =
    let told = c.in-WholeLabel.is in
    rw told (appended_put (rw told at c.requires.0) (rw (rw told at c.requires.1) at c.append_label.ensures))
