-- `records::step_at` meets its contract: where the marks and the kind are right, the payload decides.
-- Assumes nothing.
use Rattle.std.proofs.Common.{sym, ap, ◌∙◌}
use Rattle.meaning.specs.Refusals.{good}
use Rattle.records.proofs.Framing.{framed_by, frame_is, breaks, stands}
use Rattle.records.proofs.step_at.Goals as goal

pub returns-then-not-fits : goal.returns-then-not-fits
returns-then-not-fits c =
    breaks c.args.s.now c.args.at
    (framed_by c.args.s.now c.args.at c.if-s-at-lt4.false c.if-s-start.false c.if-s-at-2.false c.if-s-at-ne-MARK_SECOND.false
    c.in_ok-kind.kind c.in_ok-kind.ensures c.fits.result c.fits.ensures ∙ c.if-not-fits.true)

pub returns : goal.returns
returns c =
    ap good (sym (frame_is c.args.s.now c.args.at c.if-s-at-lt4.false c.if-s-start.false c.if-s-at-2.false c.if-s-at-ne-MARK_SECOND.false c.in_ok-kind.kind c.in_ok-kind.ensures))
    ∙ stands c.args.s.now c.args.at
    (framed_by c.args.s.now c.args.at c.if-s-at-lt4.false c.if-s-start.false c.if-s-at-2.false c.if-s-at-ne-MARK_SECOND.false
    c.in_ok-kind.kind c.in_ok-kind.ensures c.fits.result c.fits.ensures ∙ c.if-not-fits.false)
