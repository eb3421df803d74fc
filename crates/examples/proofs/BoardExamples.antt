-- The calls of document 01's "The board", on from its example: each call, and each refusal. By computation.
use mathlib.Core.List.{List, [], ◌∷◌, ◌++◌}
use Rattle.std.specs.Prelude.{None}
use mathlib.Core.Path.{◌≡◌, refl}
use Prim.Native.Nat.{ℕ}
use Rattle.common.specs.Answer.{granted, refused}
use Rattle.label.specs.Example.{example_of}
use Rattle.common.specs.Index.{every, first_from, sum_from}
use Rattle.label.specs.Label
use Rattle.label.specs.Region.{region_of}
use Rattle.label.specs.Words.{includes_of, same_of}
use Rattle.range.specs.Range
use Rattle.range.specs.Tuple
use Rattle.segments.specs.Calls
use Rattle.segments.specs.Calls.{close_call, look_call, open_call, post_call}
use Rattle.segment_table.specs.Operator
use Rattle.segment_table.specs.declared.Reply.TheVariants.{Done as done, Opened as opened, Shown as shown}
use Rattle.segment_table.specs.Segments.{empty_table, segment_of, slot, tenant_id}
use Rattle.segment_table.specs.Slots
use Rattle.segment_table.specs.Sound
use Rattle.examples.specs.Examples.{AnsweredRequest, Request, ◌gets◌, admit, board, call, ceiling, l, make, open_by, played, size_by}

abbrev post_by : ℕ → ℕ → ℕ → Request
post_by t p version = call (post_call (tenant_id t) l (slot p) version)

abbrev look_by : ℕ → ℕ → Request
look_by t p = call (look_call (tenant_id t) l (slot p))

abbrev close_by : ℕ → ℕ → Request
close_by t p = call (close_call (tenant_id t) l (slot p))

-- an open under (h,{})
abbrev open_under : ℕ → ℕ → ℕ → Request
open_under h t pages = call (open_call (tenant_id t) (example_of h []) pages)

abbrev others : List AnsweredRequest
others =
    (post_by 0 0 7 gets granted done)
    ∷ (look_by 1 0 gets granted (shown (segment_of l 59 7)))
    ∷ (size_by 1 0 1 gets refused 13 None)
    ∷ (look_by 2 0 gets refused 22 None)
    ∷ (look_by 0 64 gets refused 22 None)
    ∷ (open_by 0 0 gets refused 22 None)
    ∷ (ceiling 0 59 gets refused 16 None)
    ∷ (ceiling 0 61 gets refused 12 None)
    ∷ (ceiling 3 1 gets refused 22 None)
    ∷ (admit 1 1 gets refused 16 None)
    ∷ (close_by 1 8 gets granted done)
    ∷ (look_by 0 8 gets refused 13 None)
    ∷ (ceiling 1 39 gets granted done)
    ∷ (admit 2 1 gets granted done)
    ∷ (close_by 0 0 gets granted done)
    ∷ (open_by 0 2 gets granted (opened (slot 0)))
    ∷ (open_by 1 1 gets granted (opened (slot 8)))
    ∷ (open_by 1 1 gets granted (opened (slot 9)))
    ∷ (open_by 1 1 gets granted (opened (slot 10)))
    ∷ (open_by 1 1 gets granted (opened (slot 11)))
    ∷ (open_by 1 1 gets granted (opened (slot 12)))
    ∷ (open_by 1 1 gets granted (opened (slot 13)))
    ∷ (open_by 1 1 gets granted (opened (slot 14)))
    ∷ (open_by 1 1 gets granted (opened (slot 15)))
    ∷ (open_by 1 40 gets refused 28 None)
    ∷ (open_under 21 1 1 gets refused 1 None)
    ∷ (open_under 200 1 1 gets refused 22 None)
    ∷ (make 0 gets refused 22 None)
    ∷ (make 1048577 gets refused 22 None)
    ∷ []

board_holds : played (empty_table 0) (board ++ others) ≡ board ++ others
unfolding every first_from sum_from Label.valid_of Label.dominates_of Label.equal_of includes_of same_of region_of Range.valid_of Range.contains_of Tuple.valid_at Tuple.valid_of Tuple.contains_at Tuple.contains_of Tuple.empty_of Slots.first_slot Slots.slot_count Slots.owns Slots.filled Slots.lowest_empty Slots.pages_of Slots.ceilings_of Sound.admitted Sound.tenant_sound Sound.cleared_by Sound.is_zero_segment Sound.slot_sound Sound.under_ceiling Sound.sound Operator.make_answer Operator.make_of Operator.admit_answer Operator.admit_of Operator.set_ceiling_answer Operator.set_ceiling_of Calls.call_valid Calls.cleared Calls.writable Calls.visible Calls.access_of Calls.decision_on Calls.step_of
board_holds = refl
