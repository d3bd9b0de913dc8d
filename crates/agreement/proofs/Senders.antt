-- What a master's frame says of its sender: the role first and then the configEpoch, or both at once.
use mathlib.Core.Path.{◌≡◌, refl, sym, ap, ◌∙◌}
use mathlib.Core.Bool.{Bool, true, false, cond}
use mathlib.Core.List.{List}
use Prim.Native.Nat.{ℕ}
use lib.Dec.{ltb}
use lib.ListN.{length, get_or, set}
use lib.Seq.{set_out, set-set, get_or-set_same}
use borrow.Author.Tests.{ltb-true, ltb-false}
use Rattle.state.specs.Node.{record_at, blank}
use Rattle.state.specs.Changes.{with_role, with_config, with_records, on_record}
use Rattle.state.specs.declared.Node.{Node}
use Rattle.state.specs.declared.Record.{Record}
use Rattle.state.specs.declared.Role.{Role}
use Rattle.state.specs.declared.Role.TheVariants.{Master}
use Rattle.heartbeats.specs.Heartbeats.{with_sender}
use Rattle.slotwise.specs.Slotwise.{role_said, raised}

module _ (rs : List Record) (k : ℕ) where
  abbrev known : Record
  known = get_or rs k blank

  -- the record of a number changed by g after f is changed by both at once; a number that has none changes nothing
  twice : (f g : Record → Record) → set (set rs k (f known)) k (g (get_or (set rs k (f known)) k blank)) ≡ set rs k (g (f known))
  twice f g = set-set rs k _ _ ∙ by (ltb k (length rs)) refl
    where
      by : (t : Bool) → ltb k (length rs) ≡ t → set rs k (g (get_or (set rs k (f known)) k blank)) ≡ set rs k (g (f known))
      by true e = rw (get_or-set_same rs k (f known) blank (ltb-true k (length rs) e))
      by false e = let past = ltb-false k (length rs) e in set_out rs k _ past ∙ sym (set_out rs k _ past)

  -- a role changes no configEpoch
  config_kept : (role : Role) → (get_or (set rs k (with_role role known)) k blank).config ≡ known.config
  config_kept role = by (ltb k (length rs)) refl
    where
      by : (t : Bool) → ltb k (length rs) ≡ t → (get_or (set rs k (with_role role known)) k blank).config ≡ known.config
      by true e = rw (get_or-set_same rs k (with_role role known) blank (ltb-true k (length rs) e))
      by false e = rw (set_out rs k (with_role role known) (ltb-false k (length rs) e))

pub same_sender : (sender config : ℕ) (n : Node) → raised sender config (role_said sender Master n) ≡ with_sender sender Master config n
unfolding with_sender with_records
same_sender sender config n = rw (config_kept n.records sender Master) (by (ltb (record_at n sender).config config))
  where
    by : (t : Bool) → cond t (on_record sender (with_config config) (role_said sender Master n)) (role_said sender Master n)
        ≡ on_record sender (λ r. with_config (cond t config r.config) (with_role Master r)) n
    by true = ap (λ (rs : List Record). with_records rs n) (twice n.records sender (with_role Master) (with_config config))
    by false = refl
