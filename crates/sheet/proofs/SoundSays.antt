-- What sound says of a stored sheet: 1 to the most events and nodes, each of them sound.
-- Assumes nothing.
use Rattle.std.proofs.Common.{ℕ, ◌≤◌, ◌<◌, ◌≡◌, Bool, true, ◌&&◌, leb, leb-true}
use Rattle.meaning.specs.Limits.{events_most, nodes_most}
use Rattle.meaning.specs.Sets.{every}
use Rattle.laws.proofs.Quantifiers.{and_left, and_right, every_each}
use Rattle.sheet.specs.declared.Sheet.{Sheet}
use Rattle.sheet.specs.Sound.{sound_event, sound_node, sound}

module _ (s : Sheet) (ok : sound s ≡ true) where
  abbrev E : Bool
  E = every s.events (sound_event s.needs s.conflicts s.events)

  abbrev N : Bool
  N = every s.nodes (sound_node s.node s.events)

  -- 1 to the most events and nodes, each of them sound
  parts : (1 ≤ s.events) × (s.events ≤ events_most) × (1 ≤ s.nodes) × (s.nodes ≤ nodes_most) × (E ≡ true) × (N ≡ true)
  unfolding sound
  parts =
      let a = leb 1 s.events in
      let b = leb s.events events_most in
      let c = leb 1 s.nodes in
      let d = leb s.nodes nodes_most in
      let p = and_left (a && b && c && d && E) N ok in
      let q = and_left (a && b && c && d) E p in
      let r = and_left (a && b && c) d q in
      let t = and_left (a && b) c r in (
        leb-true 1 s.events (and_left a b t),
        leb-true s.events events_most (and_right a b t),
        leb-true 1 s.nodes (and_right (a && b) c r),
        leb-true s.nodes nodes_most (and_right (a && b && c) d q),
        and_right (a && b && c && d) E p,
        and_right (a && b && c && d && E) N ok,
      )

  pub some_events : 1 ≤ s.events
  some_events = parts.0

  pub few_events : s.events ≤ events_most
  few_events = parts.1

  pub some_nodes : 1 ≤ s.nodes
  some_nodes = parts.2

  pub few_nodes : s.nodes ≤ nodes_most
  few_nodes = parts.3

  pub node_sound : (n : ℕ) → n < s.nodes → sound_node s.node s.events n ≡ true
  node_sound n l = every_each (sound_node s.node s.events) s.nodes n l parts.5
