use Rattle.std.proofs.Common.{length, rules}
use Rattle.std.specs.List.{flat_map}
use Rattle.module_image.specs.Spelling.{constant_count, counts, opening, provided_entry, settings, subscribed_entry, word}
use Rattle.module_image.proofs.Written.{pieces}
use Rattle.module_image.proofs.writing.write.Goals as goal

pub returns : goal.returns
returns c =
    let face = c.args.face.now in
    let code = c.args.code.now in
    let constants = c.args.constants.now in
    pieces (opening c.args.version) (settings face.id c.args.flags c.args.state_size c.args.handler) (counts (length face.provided.items) (length face.subscribed.items) (length code)) (constant_count c.args.version (length constants))
    (flat_map provided_entry face.provided.items) (flat_map subscribed_entry face.subscribed.items) (flat_map word code) constants
    c.put_opening.new.file.items c.put_settings.new.file.items c.put_counts.new.file.items c.put_constant_count.new.file.items c.put_provided.new.file.items c.put_subscribed.new.file.items c.put_words.new.file.items c.extend_from_slice.new.self.items
    (search rules) (search rules) (search rules) (search rules) (search rules) (search rules) (search rules) (search rules)
