use Rattle.controller_walk.proofs.Courses.{on_ok, on_ok_both, wrote_moved, read_moved, length_mid, found_of}
use Rattle.controller_walk.proofs.progress.transfer.Goals as goal

pub returns-in-Source-clause-moved : goal.returns-in-Source-clause-moved
returns-in-Source-clause-moved g c =
    rw c.in-Source.is (on_ok c.read.result _ _ (λ h. read_moved c.args.place c.args.offset c.args.n _ _ _ c.args.staging.now c.read.new.into c.read.ensures.memory (length_mid c.args.offset c.args.n c.args.staging.now c.requires.within) h) c.read.ensures.read)

pub returns-in-Source-clause-there : goal.returns-in-Source-clause-there
returns-in-Source-clause-there g c =
    on_ok c.read.result _ _ (λ h. (c.read.new.into, rw (← length_mid c.args.offset c.args.n c.args.staging.now c.requires.within) h)) c.read.ensures.read

pub returns-in-Destination-clause-there : goal.returns-in-Destination-clause-there
returns-in-Destination-clause-there g c =
    on_ok c.write.result _ _ (λ h. found_of (g.D.Dma.memory c.args.dma.now) c.args.place _ c.args.n (length_mid c.args.offset c.args.n c.args.staging.now c.requires.within) h) c.write.ensures.there

pub returns-in-Destination-clause-moved : goal.returns-in-Destination-clause-moved
returns-in-Destination-clause-moved g c =
    rw c.in-Destination.is (on_ok_both c.write.result _ _ _ (λ there wrote. wrote_moved c.args.place c.args.offset c.args.n _ _ _ c.args.staging.now (length_mid c.args.offset c.args.n c.args.staging.now c.requires.within) there wrote) c.write.ensures.there c.write.ensures.written)
