mod Sharing
mod Examples
