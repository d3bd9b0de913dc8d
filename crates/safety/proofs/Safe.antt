-- Demand 3, for every roster, timeouts and list of calls.
use mathlib.Core.Path.{◌≡◌, refl, sym, ap, ◌∙◌, subst}
use mathlib.Core.Bool.{Bool, true, false, cond}
use mathlib.Core.List.{List, [], ◌∷◌, ◌++◌, map}
use Prim.Native.Nat.{ℕ, ◌≤◌}
use native.Mathlib.Nat.{le_refl, le_trans}
use lib.Dec.{eqb}
use lib.ListN.{get_or, get_or-map}
use Rattle.tables.specs.Sizes.{node_room}
use Rattle.tables.specs.Majorities.{Majority}
use Rattle.tables.proofs.Below.{count_like}
use Rattle.tables.proofs.Sets.{majorities_meet}
use Rattle.state.specs.declared.Node.{Node}
use Rattle.state.specs.declared.Record.{Record}
use Rattle.state.specs.declared.Role.TheVariants.{Master}
use Rattle.fresh.specs.Fresh.{newcomer, fresh_node}
use Rattle.node.specs.Calls.{outcome}
use Rattle.safety.specs.Deeds.{Deed, granted, Did, grants, NoneTwice, Won}
use Rattle.safety.specs.Calls.{deed}
use Rattle.safety.specs.Demand3.{Roster, master_by, Made, state_of, history, Demand3}
use Rattle.safety.proofs.Life.{Moves, Past, start, onward, Win, inv, wins, vote_rises, one_candidate}
use Rattle.safety.proofs.Steps.{view, each_call}

module _ (r : Roster) (timeouts : ℕ → ℕ) where
  me_is : (ms : List Made) (v : ℕ) → (state_of r timeouts ms v).me ≡ v
  unfolding fresh_node
  me_is [] v = refl
  me_is (m ∷ ms) v = go (eqb m.on v) (me_is ms v)
    where
      n : Node
      n = state_of r timeouts ms v

      go : (b : Bool) → n.me ≡ v → (cond b (outcome n m.lent m.call).node n).me ≡ v
      go true e = (each_call n m.lent m.call).me ∙ e
      go false e = e

  -- the next call of node v
  moves : (m : Made) (ms : List Made) (v : ℕ) → let n = state_of r timeouts ms v in Moves node_room v (view n) (deed n m.lent m.call) (view (outcome n m.lent m.call).node)
  moves m ms v =
      let n = state_of r timeouts ms v in
      subst (λ (a : ℕ). Moves node_room a (view n) (deed n m.lent m.call) (view (outcome n m.lent m.call).node)) (me_is ms v) (each_call n m.lent m.call).moves

  -- a fresh node lists the roster's masters
  fresh_role : (k : ℕ) → (get_or (map newcomer r.roles) k (newcomer Master)).role ≡ get_or r.roles k Master
  fresh_role k = ap (λ (x : Record). x.role) (get_or-map newcomer r.roles k Master)

  life : (ms : List Made) (v : ℕ) → Past node_room (master_by r) v (view (state_of r timeouts ms v)) (history r timeouts ms v)
  unfolding fresh_node
  life [] v = start {s = view (state_of r timeouts [] v)} (record { vote = refl; poll = refl; masters = λ k. rw (fresh_role k) })
  life (m ∷ ms) v = go (eqb m.on v) (life ms v) (moves m ms v)
    where
      n : Node
      n = state_of r timeouts ms v

      n' : Node
      n' = (outcome n m.lent m.call).node

      h : List Deed
      h = history r timeouts ms v

      d : Deed
      d = deed n m.lent m.call

      go : (b : Bool) → Past node_room (master_by r) v (view n) h → Moves node_room v (view n) d (view n') → Past node_room (master_by r) v (view (cond b n' n)) (cond b (d ∷ h) h)
      go true p s = onward p s
      go false p s = p

  -- one more call: lastVoteEpoch does not fall
  rises : (m : Made) (ms : List Made) (v : ℕ) → (state_of r timeouts ms v).voted ≤ (state_of r timeouts (m ∷ ms) v).voted
  rises m ms v = go (eqb m.on v) (moves m ms v)
    where
      n : Node
      n = state_of r timeouts ms v

      n' : Node
      n' = (outcome n m.lent m.call).node

      go : (b : Bool) → Moves node_room v (view n) (deed n m.lent m.call) (view n') → n.voted ≤ (cond b n' n).voted
      go true s = vote_rises node_room (master_by r) v (deed n m.lent m.call) (view n) (view n') s
      go false s = le_refl n.voted

  never_falls : (v : ℕ) (later earlier : List Made) → (state_of r timeouts earlier v).voted ≤ (state_of r timeouts (later ++ earlier) v).voted
  never_falls v [] earlier = le_refl _
  never_falls v (m ∷ later) earlier = le_trans (never_falls v later earlier) (rises m (later ++ earlier) v)

  once : (ms : List Made) (v : ℕ) → NoneTwice (grants (history r timeouts ms v))
  once ms v = (inv node_room (master_by r) v (life ms v)).once

  -- a voter that both candidates heard granted the epoch to both
  one_voter : (ms : List Made) (a b e v : ℕ) → Did (granted e a) (history r timeouts ms v) → Did (granted e b) (history r timeouts ms v) → a ≡ b
  one_voter ms a b e v = one_candidate e a b (history r timeouts ms v) (once ms v)

  win : (ms : List Made) (a e : ℕ) (before : List Deed) → Won e (history r timeouts ms a) before → Win node_room (master_by r) a e before (history r timeouts ms a)
  win ms a e before = wins node_room (master_by r) a (life ms a) e before

pub demand3 : (r : Roster) (timeouts : ℕ → ℕ) (ms : List Made) → Demand3 r timeouts ms
demand3 r timeouts ms = record {
  once = once r timeouts ms;
  never_falls = λ v later earlier e. rw e (never_falls r timeouts v later earlier);
  is_greatest = λ v. (inv node_room (master_by r) v (life r timeouts ms v)).vote;
  -- the two majorities of one set have a voter in common
  one_winner = λ a b e before_a before_b wa wb same ga gb.
      let A : Win node_room (master_by r) a e before_a (history r timeouts ms a) = win r timeouts ms a e before_a wa in
      let B : Win node_room (master_by r) b e before_b (history r timeouts ms b) = win r timeouts ms b e before_b wb in
      let sets : ((k : ℕ) → B.set k ≡ A.set k) = λ k. B.voters_are k ∙ sym (same k) ∙ sym (A.voters_are k) in
      let most : Majority node_room B.heard A.set = rw (← count_like B.set A.set node_room (λ k h. sets k)) B.most in
      let both = majorities_meet node_room A.set A.heard B.heard (λ k t. (A.heard_are k t).0) (λ k t. sym (sets k) ∙ (B.heard_are k t).0) A.most most in
      let v : ℕ = both.0 in
      one_voter r timeouts ms a b e v (ga v (A.heard_are v both.1).1) (gb v (B.heard_are v both.2).1);
}
