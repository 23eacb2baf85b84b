-- What the slices that a list of calls is lent hold, and that they stay the same ones. Assumes nothing.
use Rattle.std.specs.Prelude.{◌≡◌, length, refl}
use Rattle.std.proofs.Common.{◌∙◌}
use Rattle.call_words.specs.declared.Buffers.{Buffers}
use Rattle.call_words.specs.Words as words

abbrev pub of_buffers : Buffers → words.Buffers
of_buffers b = words.buffers b.lengths.now b.stops.now b.work.now b.cells.now b.answers.now b.history.now

-- every slice is as long as it was
pub record AsLong (before after : words.Buffers) : Type 0 where
  pub lengths : length after.lengths ≡ length before.lengths
  pub stops : length after.stops ≡ length before.stops
  pub work : length after.work ≡ length before.work
  pub cells : length after.cells ≡ length before.cells
  pub answers : length after.answers ≡ length before.answers
  pub history : length after.history ≡ length before.history

-- the slices are still the same ones
pub record Keeps (old new : Buffers) : Type 0 where
  pub same_lengths : new.lengths.ghost_name ≡ old.lengths.ghost_name
  pub same_stops : new.stops.ghost_name ≡ old.stops.ghost_name
  pub same_work : new.work.ghost_name ≡ old.work.ghost_name
  pub same_cells : new.cells.ghost_name ≡ old.cells.ghost_name
  pub same_answers : new.answers.ghost_name ≡ old.answers.ghost_name
  pub same_history : new.history.ghost_name ≡ old.history.ghost_name
  pub as_long : AsLong (of_buffers old) (of_buffers new)

pub keeps_same : (b : Buffers) → Keeps b b
keeps_same b =
    record {
      same_lengths = refl;
      same_stops = refl;
      same_work = refl;
      same_cells = refl;
      same_answers = refl;
      same_history = refl;
      as_long = record { lengths = refl; stops = refl; work = refl; cells = refl; answers = refl; history = refl };
    }

pub keeps_on : {a b c : Buffers} → Keeps a b → Keeps b c → Keeps a c
keeps_on f g =
    let x = f.as_long in
    let y = g.as_long in
    record {
      same_lengths = g.same_lengths ∙ f.same_lengths;
      same_stops = g.same_stops ∙ f.same_stops;
      same_work = g.same_work ∙ f.same_work;
      same_cells = g.same_cells ∙ f.same_cells;
      same_answers = g.same_answers ∙ f.same_answers;
      same_history = g.same_history ∙ f.same_history;
      as_long = record {
        lengths = y.lengths ∙ x.lengths;
        stops = y.stops ∙ x.stops;
        work = y.work ∙ x.work;
        cells = y.cells ∙ x.cells;
        answers = y.answers ∙ x.answers;
        history = y.history ∙ x.history;
      };
    }
