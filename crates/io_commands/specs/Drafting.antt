-- Drafts as their type keeps them.
use Rattle.io_commands.specs.{Drafts.{DraftContents, IsDraft}, Requests.FitsRequest, Values.{data_part, chain_part}, declared.draft.Draft.TheInside.Inside}

abbrev pub contents_of : {A : Type 0} → Inside A → DraftContents
contents_of d =
    record {
      q = d.q;
      cid = d.cid;
      request = d.request;
      data_pages = data_part d.request d.pages.items;
      chain_pages = chain_part d.request d.pages.items;
      segment = d.segment;
      entry = d.entry;
    }

abbrev pub KeepsDraft : {A : Type 0} → Inside A → Type 0
KeepsDraft d = IsDraft (contents_of d) × FitsRequest d.request
