-- The bounds of the machine, together.
use Rattle.machine.specs.Bounds.{MachineBounds}
use Rattle.machine.proofs.Bounded.{few_words, each_counts, sent_few}
use Rattle.machine.proofs.Counting.{no_less}
use Rattle.machine.proofs.Ending.{ends_soon}
use Rattle.machine.proofs.Lives.{calls, only_calls, one_place, onward, ends, in_run, sent_for_one}
use Rattle.machine.proofs.Patient.{few_pending}
use Rattle.machine.proofs.Places.{places, place_left}
use Rattle.machine.proofs.Tending.{none_done, all_wait, fewer_left, fewer_want, still_none}

pub machine_bounds : MachineBounds
machine_bounds = record {
  calls = calls;
  only_calls = only_calls;
  in_run = in_run;
  onward = λ r st es st' es' x at c n. onward r st x at es st' es' c n;
  one_place = one_place;
  ends = λ r st es st' es' x at c n. ends r st x at es st' es' c n;
  sent_for_one = sent_for_one;
  no_less = no_less;
  few_words = few_words;
  each_counts = each_counts;
  sent_few = sent_few;
  one_pending = λ r st es j x z m i a p k. (few_pending r st es j).one x z m i (record { apex_is = a; name_is = p; kind_is = k });
  none_known = λ r st es j x m. (few_pending r st es j).unknown x m;
  places = places;
  place_left = λ r st es l j u m w. place_left r st es j l u m w;
  none_done = none_done;
  all_wait = all_wait;
  fewer_left = fewer_left;
  fewer_want = fewer_want;
  still_none = still_none;
  ends_soon = ends_soon;
}
