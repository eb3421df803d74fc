use Rattle.std.proofs.Common.{◌≡◌, length, refl, sym, arith, rules}
use Rattle.octets.proofs.ByteLaws.{put_nil, then_put}
use Rattle.label.specs.Words.{members_below, words}
use Rattle.segments_cmd.specs.Show.{list_text}
use Rattle.segments_cmd.proofs.CategoryLaws.{list_last, list_next, next_above, next_below}
use Rattle.segments_cmd.proofs.show.put_members.Goals as goal

pub loop-c-init : goal.loop-c-init
unfolding list_text members_below
loop-c-init c =
    record {
      same_length = refl;
      from_within = omega arith;
      end_within = omega arith;
      put = record { past = omega arith; written = sym (put_nil c.args.out.now c.args.at) };
    }

pub put_field-end-requires : goal.put_field-end-requires
put_field-end-requires c =
    let ws = c.args.categories in
    let h : length ws ≡ words = search rules in
    let a = next_above ws c.loop-c.from c.next.result c.next.ensures c.in-Some.c c.in-Some.is in
    let b = next_below ws c.loop-c.from c.next.result c.next.ensures c.in-Some.c c.in-Some.is in
    search rules

pub overflow_add-from : goal.overflow_add-from
overflow_add-from c =
    let ws = c.args.categories in
    let h : length ws ≡ words = search rules in
    let b = next_below ws c.loop-c.from c.next.result c.next.ensures c.in-Some.c c.in-Some.is in omega arith

pub loop-c-smaller : goal.loop-c-smaller
loop-c-smaller c =
    let ws = c.args.categories in
    let h : length ws ≡ words = search rules in
    let a = next_above ws c.loop-c.from c.next.result c.next.ensures c.in-Some.c c.in-Some.is in
    let b = next_below ws c.loop-c.from c.next.result c.next.ensures c.in-Some.c c.in-Some.is in omega arith

pub loop-c-preserved : goal.loop-c-preserved
loop-c-preserved c =
    let ws = c.args.categories in
    let h : length ws ≡ words = search rules in
    let a = next_above ws c.loop-c.from c.next.result c.next.ensures c.in-Some.c c.in-Some.is in
    let b = next_below ws c.loop-c.from c.next.result c.next.ensures c.in-Some.c c.in-Some.is in
    let e = list_next ws c.loop-c.from c.next.result c.next.ensures c.in-Some.c c.in-Some.is in
    record {
      same_length = search rules;
      from_within = omega arith;
      end_within = omega arith;
      put = rw e (then_put (omega arith) c.loop-c.invariant.put c.put_field-end.ensures.put);
    }

pub returns : goal.returns
returns c =
    let ws = c.args.categories in
    let h : length ws ≡ words = search rules in
    let e = list_last ws c.loop-c.from c.next.result c.next.ensures c.in_default.is (omega arith) in
    record { put = rw e at c.loop-c.invariant.put; within = omega arith }
