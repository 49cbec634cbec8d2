mod Found
mod FoundClusters
mod Numbers
mod Stands
mod Nodes
mod SlotOrder
mod LinkCounts
mod ReplacedExtents
mod ServedForks
mod WholeSlots
mod ForksFit
mod MadeOf
mod SlotChanges
pub mod Sealing
pub mod Supers
pub mod Headers
pub mod BlankLogs
pub mod SlotBytes
pub mod SlotChains
pub mod ObjectBlocks
pub mod Grounding
pub mod Sharing
pub mod OwnersOnce
pub mod PlacedOnce
pub mod CountsOnce
pub mod ImagesOnce
pub mod ImagesJoined
pub mod BuiltOnce
pub mod NamesOnce
pub mod ObjectKinds
pub mod NamesJoined
pub mod RewritesOnce
pub mod RepairsOnce
pub mod AnswersOnce
pub mod TreeBytes
pub mod TreeBlocks
pub mod TreeRows
pub mod TreeKinds
pub mod TreeGroups
