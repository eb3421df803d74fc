-- The parts are put one after the other (`both_put`); there is room for each, since there is room for all. The arrays of an entry's texts are full,
-- so that the texts of one that fits lie in them.
use borrow.Author.Rules.{rules}
use mathlib.Core.Path.{◌≡◌}
use native.Mathlib.Omega.{arith}
use lib.ListN.{length}
use Rattle.octets.proofs.ByteLaws.{appended_put, both_put, second_fits}
use Rattle.label_codec.specs.Codec.{width}
use Rattle.alias_entry.specs.Entry.{abbreviation_size, entry_bytes, name_size, value_bytes}
use Rattle.alias_entry.proofs.EntryLaws.{fitting, room_for_name, room_for_value}
use Rattle.alias_entry.proofs.Entry.put.Goals as goal

pub put-name_at-requires : goal.put-name_at-requires
put-name_at-requires c =
    let w = width c.args.words in
    let v = room_for_value c.args.out.now c.args.at w c.args.self.now c.requires.0 in
    (second_fits (appended_put (omega arith) c.append_byte-value_at.ensures) (value_bytes w c.args.self.now.value c.args.self.now.label) v, (fitting c.args.self.now c.requires.1).value)

pub put_text-abbreviation_at-requires : goal.put_text-abbreviation_at-requires
put_text-abbreviation_at-requires c =
    let w = width c.args.words in
    let f = (fitting c.args.self.now c.requires.1).name in
    let l : length c.args.self.now.name.bytes ≡ name_size = search rules in
    let v = room_for_value c.args.out.now c.args.at w c.args.self.now c.requires.0 in
    let n = room_for_name c.args.out.now c.args.at w c.args.self.now c.requires.0 in
    let first = both_put (rw c.class.ensures at (appended_put (omega arith) c.append_byte-value_at.ensures)) _ v c.put-name_at.ensures in
    (omega arith, omega arith, second_fits first _ n)

pub put_text-requires : goal.put_text-requires
unfolding entry_bytes
put_text-requires c =
    let w = width c.args.words in
    let f = (fitting c.args.self.now c.requires.1).abbreviation in
    let l : length c.args.self.now.abbreviation.bytes ≡ abbreviation_size = search rules in
    let v = room_for_value c.args.out.now c.args.at w c.args.self.now c.requires.0 in
    let n = room_for_name c.args.out.now c.args.at w c.args.self.now c.requires.0 in
    let first = both_put (rw c.class.ensures at (appended_put (omega arith) c.append_byte-value_at.ensures)) _ v c.put-name_at.ensures in
    let second = both_put first _ n c.put_text-abbreviation_at.ensures in
    (omega arith, omega arith, second_fits second _ c.requires.0)

pub returns : goal.returns
unfolding entry_bytes
returns c =
    let w = width c.args.words in
    let v = room_for_value c.args.out.now c.args.at w c.args.self.now c.requires.0 in
    let n = room_for_name c.args.out.now c.args.at w c.args.self.now c.requires.0 in
    let first = both_put (rw c.class.ensures at (appended_put (omega arith) c.append_byte-value_at.ensures)) _ v c.put-name_at.ensures in
    let second = both_put first _ n c.put_text-abbreviation_at.ensures in
    both_put second _ c.requires.0 c.put_text.ensures
