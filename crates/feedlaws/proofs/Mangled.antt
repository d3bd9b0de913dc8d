-- A line that is refused is as if it had not been sent; one that still reads as a frame is taken as one.
use mathlib.Core.Path.{◌≡◌, refl, sym, ap, subst, ◌∙◌}
use mathlib.Core.List.{[], ◌∷◌, ◌++◌}
use lib.Dec.{T}
use Rattle.tables.specs.Below.{every}
use Rattle.tables.specs.Lists.{newline, first_from}
use Rattle.state.specs.Outcomes.{Stepped}
use Rattle.state.specs.Changes.{with_records, with_current, with_clock}
use Rattle.soundness.specs.Sound.{arrays_whole, bounds_kept, before, ids_ascend, records_sound, election_sound, marks_ascend, marks_sound, own_clear, sound}
use Rattle.fresh.specs.Fresh.{fresh_node}
use Rattle.cases.specs.Cases.{cases_node}
use Rattle.hexdigits.specs.Hex.{is_digit, digit, all_digits, byte_at, number_at, character, hex, bytes_of}
use Rattle.frames.specs.Frames.{frame_of}
use Rattle.frames.specs.Lines.{encode}
use Rattle.refusals.specs.Refusals.{is_beyond, frame_refusals, refusals, turns_away}
use Rattle.reports.specs.Reports.{failed}
use Rattle.kinds.specs.Kinds.{on_kind}
use Rattle.node.specs.Step.{on_frame}
use Rattle.promises.specs.Refused.{Unchanged}
use Rattle.promises.proofs.Refused.{turned_away_changes_nothing}
use Rattle.scraps.specs.Scraps.{Line, short, long, grown}
use Rattle.feed.specs.Feed.{Station, with_line, on_line, ends}
use Rattle.feed.proofs.Lines.{empty_is_long}
use Rattle.streams.specs.Streams.{Heard, following, heard, stream, whole}
use Rattle.feedlaws.specs.Mangled.{at, RefusedLines, StillGood}
use Rattle.streams.proofs.Streams.{stream_append, then_of, line_ends, a_line}

-- a line that is refused changes nothing, one that is too long neither
unchanged : (s : Station) (line : Line) → let x = on_line s.node s.slots s.reports line in T (turns_away x.outcome.answer) → Unchanged s.node s.slots s.reports x
unchanged s (short line) t = (turned_away_changes_nothing s.node).line s.slots s.reports line t
unchanged s long t =
    subst (λ (x : Stepped). T (turns_away x.outcome.answer) → Unchanged s.node s.slots s.reports x) (empty_is_long s.node s.slots s.reports)
    ((turned_away_changes_nothing s.node).line s.slots s.reports []) t

used_up : (s : Station) (x : Stepped) → Unchanged s.node s.slots s.reports x → heard (ends x 1) ≡ record { answers = x.outcome.answer ∷ []; after = with_line (short []) s }
used_up s x u = rw (u.node, u.slots_kept, u.reports_kept)

pub refused_lines : RefusedLines
refused_lines = record {
  inside = λ s before line rest f q t.
      let u = at s before line rest in
      let x = whole u line in
      let k : heard (ends x 1) ≡ record { answers = x.outcome.answer ∷ []; after = u } = used_up u x (unchanged u (short line) t) ∙ rw (← f) in
      let e : stream s (before ++ (line ++ (newline ∷ rest))) ≡ following (stream s before).answers (following (x.outcome.answer ∷ []) (stream u rest)) =
      stream_append s before (line ++ (newline ∷ rest)) ∙ ap (following (stream s before).answers) (a_line u f line rest q ∙ then_of rest k) in
      let w = stream_append s before rest in
      record {
        with_it = ap (λ (h : Heard). h.answers) e;
        without = ap (λ (h : Heard). h.answers) w;
        end = ap (λ (h : Heard). h.after) e ∙ sym (ap (λ (h : Heard). h.after) w);
      };
  begun = λ s line rest q t.
      let l = grown s.line line in
      line_ends s line rest q ∙ then_of rest (used_up s (on_line s.node s.slots s.reports l) (unchanged s l t));
}

-- computed whole
pub still_good : StillGood
unfolding stream every first_from with_records with_current with_clock arrays_whole bounds_kept before ids_ascend records_sound election_sound marks_ascend marks_sound own_clear sound cases_node fresh_node is_digit digit all_digits byte_at number_at character hex bytes_of frame_of encode is_beyond frame_refusals refusals failed on_kind on_frame
still_good = record { sent = refl; changed = refl; taken = refl }
