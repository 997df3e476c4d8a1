-- Finished commands as their type keeps them.
use Rattle.std.specs.Prelude.{◌≤◌, length}
use Rattle.io_commands.specs.{Requests.data_count, Values.{FinishedContents, IsGood, data_part, chain_part}, declared.finished.Finished.TheInside.Inside}

abbrev pub contents_of : {A : Type 0} → Inside A → FinishedContents
contents_of f =
    record {
      q = f.q;
      cid = f.cid;
      request = f.request;
      status = f.status;
      hints = f.hints;
      data_pages = data_part f.request f.pages.items;
      chain_pages = chain_part f.request f.pages.items;
    }

-- its request passes its check, and each data piece has its page
pub record IsFinished {A : Type 0} (f : Inside A) : Type 0 where
  pub good : IsGood f.request
  pub enough : data_count f.request.pieces ≤ length f.pages.items
