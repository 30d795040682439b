-- `image::reading::read_header` meets its contract.
-- Assumes nothing.
use Rattle.image.specs.Parts.{answer}
use Rattle.image.proofs.Saying.{too_short, counts_wrong, wrong_if, rest_unread_wrong, rest_read_says}
use Rattle.image.proofs.reading.read_header.Goals as goal

pub returns-then-s-lt-HEADER : goal.returns-then-s-lt-HEADER
unfolding answer
returns-then-s-lt-HEADER c = wrong_if c.args.s.now (too_short c.args.s.now c.if-s-lt-HEADER.true)

pub returns-then-broken-crowded : goal.returns-then-broken-crowded
unfolding answer
returns-then-broken-crowded c = wrong_if c.args.s.now (counts_wrong c.args.s.now c.if-s-lt-HEADER.false c.if-broken-crowded.true)

pub returns-then-marked-whole : goal.returns-then-marked-whole
unfolding answer
returns-then-marked-whole c =
    rest_unread_wrong c.args.s.now _ _ _ _ _ c.headed-marked.ensures c.sessions_headed-whole.ensures c.u32_of-total.ensures c.u32_of-gone.ensures c.u64_of-carried.ensures
    c.if-s-lt-HEADER.false c.if-broken-crowded.false c.if-marked-whole.true

pub returns : goal.returns
unfolding answer
returns c =
    rest_read_says c.args.s.now _ _ _ _ _ c.headed-marked.ensures c.sessions_headed-whole.ensures c.u32_of-total.ensures c.u32_of-gone.ensures c.u64_of-carried.ensures
    c.if-s-lt-HEADER.false c.if-broken-crowded.false c.if-marked-whole.false
