-- `window::moved_up` meets its contract.
-- Assumes nothing.
use Rattle.std.proofs.Common.{rules, ◌≡◌, length}
use Rattle.meaning.specs.Limits.{kept_most}
use Rattle.window.proofs.Filled.{moved_over}
use Rattle.window.proofs.moved_up.Goals as goal

pub returns : goal.returns
returns c =
    let sets_full : length c.args.sets.now ≡ kept_most = search rules in
    let rows_full : length c.args.rows.now ≡ kept_most = search rules in
    let p = c.requires in (
      moved_over c.args.k c.args.kept c.args.sets.now _ _ p.0 p.1 sets_full c.copy_within.ensures.after (search rules),
      moved_over c.args.k c.args.kept c.args.rows.now _ _ p.0 p.1 rows_full c.copy_within-2.ensures.after (search rules),
    )
