use Rattle.std.proofs.Common.{◌≡◌, length, arith, sym, subst, ap, ◌∙◌}
use Rattle.xfs_filled.specs.Directories.{IsSoundDirectory, made_directory}
use Rattle.xfs_filled.proofs.Made.{made_is, made_sound}
use Rattle.xfs_filled.proofs.directories.make_directory.Goals as goal

pub returns-clause-value : goal.returns-clause-value
returns-clause-value c =
    let image = c.in_ok-image.image in
    let says = c.in_ok-image.ensures in
    c.taken_apart.ensures
    ∙ made_is c.args.entries.now c.args.dir c.args.parent image.short.items image.data_blocks image.index_blocks image.free_blocks image.blocks c.directory_links-links.result says.short_bytes
    says.none says.data says.index says.free says.bytes c.directory_links-links.ensures

pub returns-clause-sound : goal.returns-clause-sound
returns-clause-sound c =
    let es = c.args.entries.now in
    let image = c.in_ok-image.image in
    let says = c.in_ok-image.ensures in
    let value : c.taken_apart.result ≡ made_directory es c.args.dir c.args.parent =
    c.taken_apart.ensures
    ∙ made_is es c.args.dir c.args.parent image.short.items image.data_blocks image.index_blocks image.free_blocks image.blocks c.directory_links-links.result says.short_bytes says.none says.data
    says.index says.free says.bytes c.directory_links-links.ensures in
    let long = ap length says.bytes in
    let count = says.blocks in
    let datas = says.data in
    let indexes = says.index in
    let frees = says.free in
    subst IsSoundDirectory (sym value) (made_sound es c.args.dir c.args.parent c.requires.writable c.requires.few (omega (arith, long, count, datas, indexes, frees)))

pub returns-clause-image : goal.returns-clause-image
returns-clause-image c =
    let says = c.in_ok-image.ensures in
    record {
      image = c.in_ok-image.image;
      is = record {
        short_bytes_are = says.short_bytes;
        short_reads = says.short;
        short_none = says.none;
        data_count = says.data;
        index_count = says.index;
        free_count = says.free;
        count = says.blocks;
        blocks_are = says.bytes;
        magics = says.magics;
        whole = says.whole;
      };
    }
