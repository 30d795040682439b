-- `faults::item_at` meets its contract.
-- Assumes nothing.
use Rattle.std.proofs.Common.{ℕ, ◌+◌, ◌-◌, ◌≡◌, ap, refl, arith, take, drop}
use Rattle.faults.specs.Tallies.{payload_in}
use Rattle.faults.proofs.item_at.Goals as goal

pub returns : goal.returns
unfolding payload_in
returns c = let f = c.args.f in let w : f.start + f.len - f.start ≡ f.len = omega arith in (refl, ap (λ (n : ℕ). take n (drop f.start c.args.s.now)) w)
